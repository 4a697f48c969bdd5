use Rattle.std.proofs.Common.{sym}
use Rattle.star_plan.proofs.TruthLemmas.{own-equals, past-equals}
use Rattle.star_plan.proofs.truth.equals_one.Goals as goal

pub returns-in-None : goal.returns-in-None
returns-in-None c = past-equals c.args.row.now c.args.column c.args.values.now c.requires (sym (rw c.in-None.is at c.value_at.ensures))

pub returns-in-Some : goal.returns-in-Some
returns-in-Some c =
    own-equals c.args.row.now c.args.column c.args.values.now c.in-Some.own.now c.has.result (sym (rw c.in-Some.is at c.value_at.ensures)) c.has.ensures
