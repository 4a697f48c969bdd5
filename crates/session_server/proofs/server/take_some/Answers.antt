use Rattle.std.proofs.Common.{refl, ◌∙◌}
use Rattle.session_server.proofs.DoorLemmas.{given-next, given-none}
use Rattle.session_server.proofs.server.take_some.Goals as goal

pub links-init : goal.links-init
links-init g c = record {
  own = c.requires.own;
  listening = c.requires.listening;
  asked = refl;
  unfailed = refl;
  given = given-none _;
}

pub links-preserved : goal.links-preserved
links-preserved g c = record {
  own = c.take_next.ensures.own;
  listening = c.take_next.ensures.listening;
  asked = c.take_next.ensures.takes.same ∙ c.links.invariant.asked;
  unfailed = c.in_default.ensures.takes.counts ∙ c.links.invariant.unfailed;
  given = given-next _ _ _ _ c.links.invariant.given (c.in_default.ensures.tells.handed refl);
}
