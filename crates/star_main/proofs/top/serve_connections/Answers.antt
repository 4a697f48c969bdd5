use Rattle.std.proofs.Common.{ap, ◌∙◌}
use Rattle.star_main.proofs.top.serve_connections.Goals as goal

pub returns : goal.returns
returns g c = record {
  served = record {
    end = c.serve-end.result;
    told = c.with_nothing.ensures.status ∙ c.serve_status_of.ensures;
    serves = c.serve-end.ensures.serves;
    unserved = λ same. ap g.D.Door.accepting (c.serve-end.ensures.untouched same);
  };
  nothing = c.with_nothing.ensures.nothing;
}
