use Rattle.event_core.proofs.Words.{◌<◌, ◌≡◌, ◌≤◌, holder_of, length, option_map_or, slot_at, ℕ}
use Rattle.std.proofs.Common.{slice_index_or}
use Rattle.event_core.proofs.spoiling.holders_of.Given as goal

-- the slots so far have the numbers of their holders, and the others have none
abbrev pub invariant-loop-slot : goal.invariant-loop-slot
invariant-loop-slot l = record {
  count : length l.holders ≡ 64;
  below : (slot : ℕ) → slot < l.slot →
      slice_index_or l.holders slot 0 ≡ option_map_or (λ number. number) (holder_of (slot_at l.manager slot)) 0;
  behind : (slot : ℕ) → l.slot ≤ slot → slice_index_or l.holders slot 0 ≡ 0;
}
