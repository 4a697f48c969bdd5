use Rattle.std.proofs.Common.{◌≡◌, ℕ, ◌<◌, length, get_or}
use Rattle.std.specs.Prelude.{None}
use Rattle.star_plan.specs.declared.condition.Condition.TheVariants.{Always}
use Rattle.continuous_scan.specs.ByValue.{IsMeant}
use Rattle.continuous_scan.proofs.conditions.conditions_of.Given as goal

abbrev pub invariant-loop-slot : goal.invariant-loop-slot
invariant-loop-slot l = record {
  many : length l.conditions ≡ l.slot;
  meant : (k : ℕ) → k < l.slot → IsMeant (get_or l.conditions k Always) (get_or l.running k None);
}
