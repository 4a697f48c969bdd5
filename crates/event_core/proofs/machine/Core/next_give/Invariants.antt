use Rattle.event_core.proofs.Words.{◌<◌, held_by, IsSome, state_of, ℕ}
use Rattle.event_core.proofs.machine.Core.next_give.Given as goal

abbrev pub invariant-loop-worker : goal.invariant-loop-worker
invariant-loop-worker l = (k : ℕ) → k < l.worker → IsSome (held_by (state_of l.self).scan.flights k) → ⊥
