use Rattle.std.proofs.Common.{take}
use Rattle.std.specs.Prelude.{All}
use Rattle.continuous_scan.specs.ByValue.{IsConditionInside}
use Rattle.continuous_scan.proofs.limits.limits_of.Given as goal

abbrev pub invariant-loop-condition : goal.invariant-loop-condition
invariant-loop-condition l = All (IsConditionInside l.column l.limits) (take l.condition-index l.conditions)
