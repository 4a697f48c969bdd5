use Rattle.std.proofs.Common.{subst, sym}
use Rattle.std.specs.Prelude.{All}
use Rattle.continuous_scan.specs.ByValue.{GivesSlots}
use Rattle.continuous_scan.proofs.conditions.Conditions.columns.Goals as goal

pub returns : goal.returns
returns c =
    subst (λ conditions. All (GivesSlots conditions) c.as_slice.result.now) c.self.view_is
    (subst (All (GivesSlots c.self.inside.conditions)) (sym c.as_slice.ensures) c.self.invariant.1)
