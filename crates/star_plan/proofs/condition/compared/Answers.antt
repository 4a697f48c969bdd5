use Rattle.std.proofs.Common.{rules, FitsSigned, w64}
use Rattle.std.proofs.lemmas.Int.{to_z-of_z}
use Rattle.star_plan.proofs.FlatLemmas.{compared-range}
use Rattle.star_plan.proofs.condition.compared.Goals as goal

pub returns-in-Some : goal.returns-in-Some
returns-in-Some c =
    let f : FitsSigned w64 c.in-Int.integer = search rules in
    rw c.in-Int.is
    (compared-range c.args.column c.args.how c.in-Int.integer c.in-Some.bounds
    (rw (to_z-of_z w64 c.in-Int.integer f) at c.in-Some.ensures))
