use Rattle.event_core.proofs.Words.{◌<◌, ◌≡◌, CanSpoil, slot_of, Some, ℕ}
use Rattle.event_core.proofs.next_parts.next_begun.Given as goal

abbrev pub invariant-loop-slot : goal.invariant-loop-slot
invariant-loop-slot l = (k : ℕ) → k < l.slot → (query : ℕ) → slot_of l.manager query ≡ Some k → CanSpoil query l.manager → ⊥
