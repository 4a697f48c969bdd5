use Rattle.std.proofs.Common.{rules, FitsSigned, w64}
use Rattle.std.proofs.lemmas.Int.{to_z-of_z}
use Rattle.star_plan.proofs.FlatLemmas.{between-range}
use Rattle.star_plan.proofs.condition.between.Goals as goal

pub returns-in-Int-Int : goal.returns-in-Int-Int
returns-in-Int-Int c =
    let f : FitsSigned w64 c.in-Int-Int.low = search rules in
    let g : FitsSigned w64 c.in-Int-Int.high = search rules in
    rw (c.in-Int-Int.is-0, c.in-Int-Int.is-1)
    (between-range c.args.column c.in-Int-Int.low c.in-Int-Int.high c.between.result
    (rw (to_z-of_z w64 c.in-Int-Int.low f, to_z-of_z w64 c.in-Int-Int.high g) at c.between.ensures))
