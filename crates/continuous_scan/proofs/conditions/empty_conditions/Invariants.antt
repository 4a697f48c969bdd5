use Rattle.std.proofs.Common.{◌≡◌, replicate}
use Rattle.star_plan.specs.declared.condition.Condition.TheVariants.{Always}
use Rattle.continuous_scan.proofs.conditions.empty_conditions.Given as goal

abbrev pub invariant-loop-slot : goal.invariant-loop-slot
invariant-loop-slot l = l.conditions ≡ replicate l.slot Always
