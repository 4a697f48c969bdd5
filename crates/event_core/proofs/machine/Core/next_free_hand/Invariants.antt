use Rattle.event_core.proofs.Words.{◌<◌, state_of, ℕ}
use Rattle.event_core.specs.Lent.{HasFreeHand}
use Rattle.event_core.proofs.machine.Core.next_free_hand.Given as goal

abbrev pub invariant-loop-worker : goal.invariant-loop-worker
invariant-loop-worker l = (k : ℕ) → k < l.worker → HasFreeHand k (state_of l.self) → ⊥
