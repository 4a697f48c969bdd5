use Rattle.std.proofs.Common.{ℕ, ◌<◌}
use Rattle.pipeline_manager.specs.Conditions.{CanFree}
use Rattle.pipeline_manager.proofs.next_events.next_release.Given as goal

abbrev pub invariant-loop-slot : goal.invariant-loop-slot
invariant-loop-slot l = (k : ℕ) → k < l.slot → CanFree k l.manager → ⊥
