-- What the first of the two calls left.
use Rattle.std.proofs.Common.{rules, subst}
use Rattle.std.specs.Fork.{ChangesEach}
use Rattle.script_run.proofs.board_seats.each_beside.Goals as goal

pub returns-clause-each : goal.returns-clause-each
returns-clause-each g c =
    subst (ChangesEach g.E.Fn c.args.each.now c.args.members.now) (search rules) c.join_mut.ensures.0.met.1
