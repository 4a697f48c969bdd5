use Rattle.std.proofs.Common.{length, ap, arith, subst, sym}
use Rattle.std.specs.Prelude.{All}
use Rattle.std.proofs.lemmas.List.{length-set}
use Rattle.std.proofs.lemmas.List.Elements.{All-nil}
use Rattle.continuous_scan.specs.ByValue.{GivesSlots}
use Rattle.continuous_scan.proofs.conditions.Conditions.set.Goals as goal

pub invariant_of-self : goal.invariant_of-self
invariant_of-self c =
    let conditions = c.set_condition.new.conditions in
    let long = ap length c.set_condition.ensures in
    let many = length-set c.self.inside.conditions c.args.slot c.args.condition in
    let few = c.self.invariant.0 in
    (omega arith, subst (All (GivesSlots conditions)) (sym c.new-none.ensures) (All-nil (GivesSlots conditions)))
