use Rattle.std.proofs.Common.{◌≡◌, ℕ, ◌<◌, Some}
use Rattle.pipeline_manager.specs.Conditions.{CanBuild}
use Rattle.pipeline_manager.specs.Lives.{slot_of}
use Rattle.pipeline_manager.proofs.next_events.next_build.Given as goal

abbrev pub invariant-loop-slot : goal.invariant-loop-slot
invariant-loop-slot l =
    (k : ℕ) → k < l.slot → (query dimension : ℕ) → slot_of l.manager query ≡ Some k → CanBuild query dimension l.manager → ⊥
