-- What a distributor has after a batch is what the core keeps after it.
use Rattle.core_state.proofs.Words.{◌<◌, ◌∙◌, ◌≡◌, ◌≤◌, after_distribute, All-contains, All-contains_itself, Any, ap, AreFed, AreKeyedTablesOf, arith, attached_at, attached_to, bit_at, Bool, cases_lt, cond, Contains, DimensionRow, eqb, false, fed_at, fed_in, Flight, flight_at, frame_words, Free, get_or, get_or-map-range_with_len, get_or_past, Grouped, Has, Held, holder_of, IfSome, IsFed, IsOnRoster, IsSomeAnd, IsSound, IsSoundBatch, KeyedStore, length, length-map-range_with_len, List, map, None, Option, option_map, range_with_len, Roomy, Rows, slot_at, SlotState, Some, State, subst, sym, tables_of, true, Version, with_batch, ℕ, ⊎_elim}
use Rattle.distributor.specs.Folded.{after_batch}
use Rattle.distributor.specs.Slots.{HaveRows}
use Rattle.core_state.specs.Handed.{HasWhatIsKept}
use Rattle.core_state.proofs.AcceptedLemmas.{find-holds}
use Rattle.core_state.proofs.CutFoundLemmas.{map-below}
use Rattle.core_state.proofs.HandedAfterLemmas.{after_flight, distributed, slot-left}
use Rattle.core_state.proofs.HandedBatchLemmas.{entry-of}
use Rattle.core_state.proofs.HandedFoldLemmas.{FoldsTheSame}
use Rattle.core_state.proofs.HandedLivesLemmas.{slots-stay}
use Rattle.core_state.proofs.HandedSlotLemmas.{all-fed, fed-apart, fed-holds, kept_by}

module _ (state now : State) (dims : List (Roomy DimensionRow)) (rows : Rows) (versions : List Version) (spoiled : ℕ)
    (stay : now.lives.slots ≡ state.lives.slots)
    (each : (slot : ℕ) → cond {A = Option Grouped} (eqb (bit_at spoiled slot) 1) None (option_map (with_batch dims rows versions slot) (attached_at state slot))
    ≡ attached_at now slot) where
  -- what a distributor has at a slot after the batch, where it had these groups
  abbrev left_at : (slot : ℕ) → Option Grouped → Option Grouped
  left_at slot attached = cond {A = Option Grouped} (eqb (bit_at spoiled slot) 1) None (option_map (with_batch dims rows versions slot) attached)

  -- and so at all slots
  pub slots-left : after_batch dims rows versions spoiled (attached_to state) ≡ attached_to now
  slots-left =
      ap (λ n. map at (range_with_len 0 n)) (length-map-range_with_len (attached_at state) 0 count)
      ∙ map-below at (attached_at now) count (λ slot low.
      ap (left_at slot) (get_or-map-range_with_len (attached_at state) 0 count slot slot None low (omega arith)) ∙ each slot)
      ∙ ap (λ (slots : List SlotState). map (attached_at now) (range_with_len 0 (length slots))) (sym stay)
    where
      count : ℕ
      count = length state.lives.slots

      at : ℕ → Option Grouped
      at slot = left_at slot (get_or (attached_to state) slot None)

  -- a distributor that has more has what the core keeps, too
  pub others-left : (attached : List (Option Grouped)) → HasWhatIsKept state attached
      → HasWhatIsKept now (after_batch dims rows versions spoiled attached)
  others-left attached old = record {
    count = length-map-range_with_len at 0 (length attached) ∙ old.count
        ∙ ap (λ (slots : List SlotState). length slots) (sym stay);
    each = λ slot. ⊎_elim (λ low. there slot low) (λ past. beyond slot past) (cases_lt slot (length attached));
  }
    where
      at : ℕ → Option Grouped
      at slot = left_at slot (get_or attached slot None)

      by_test : (slot : ℕ) (t : Bool) (o : Option Grouped) → IfSome o (λ groups. get_or attached slot None ≡ Some groups)
          → IfSome (cond {A = Option Grouped} t None (option_map (with_batch dims rows versions slot) o))
          (λ groups. cond {A = Option Grouped} t None (option_map (with_batch dims rows versions slot) (get_or attached slot None)) ≡ Some groups)
      by_test slot true o has = tt
      by_test slot false None has = tt
      by_test slot false (Some groups) has = ap (option_map (with_batch dims rows versions slot)) has

      there : (slot : ℕ) → slot < length attached
          → IfSome (attached_at now slot) (λ groups. get_or (map at (range_with_len 0 (length attached))) slot None ≡ Some groups)
      there slot low =
          subst (λ found. IfSome (attached_at now slot) (λ groups. found ≡ Some groups))
          (sym (get_or-map-range_with_len at 0 (length attached) slot slot None low (omega arith)))
          (subst (λ o. IfSome o (λ groups. at slot ≡ Some groups)) (each slot)
          (by_test slot (eqb (bit_at spoiled slot) 1) (attached_at state slot) (old.each slot)))

      beyond : (slot : ℕ) → length attached ≤ slot
          → IfSome (attached_at now slot) (λ groups. get_or (map at (range_with_len 0 (length attached))) slot None ≡ Some groups)
      beyond slot past =
          let count = old.count in
          let free : slot_at now.lives slot ≡ Free =
          ap (λ slots. get_or slots slot Free) stay ∙ get_or_past state.lives.slots slot Free (omega arith) in
          subst (λ s. IfSome (kept_by now (holder_of s)) (λ groups. get_or (map at (range_with_len 0 (length attached))) slot None ≡ Some groups))
          (sym free) tt

-- the batch of a number is one of those in flight
found-flight : (state : State) (number : ℕ) (flight : Flight) → flight_at state.scan.flights number ≡ Some flight → Contains state.scan.flights flight
found-flight state number flight there =
    find-holds (Contains state.scan.flights) (λ f. eqb f.rows.number number) state.scan.flights flight there (All-contains_itself state.scan.flights)

found-sound : (state : State) (number : ℕ) (flight : Flight) → IsSound state → flight_at state.scan.flights number ≡ Some flight → IsSoundBatch (frame_words state) (tables_of state) state.lives state.accepted flight
found-sound state number flight sound there =
    find-holds (IsSoundBatch (frame_words state) (tables_of state) state.lives state.accepted) (λ f. eqb f.rows.number number) state.scan.flights flight there sound.batches

pub groups-after : FoldsTheSame → (state : State) (tables : KeyedStore) (dims : List (Roomy DimensionRow)) (batch : ℕ) (flight : Flight) (spoiled : ℕ)
    → IsSound state → AreKeyedTablesOf state tables dims → flight_at state.scan.flights batch ≡ Some flight
    → after_batch dims flight.rows tables.versions spoiled (attached_to state) ≡ attached_to (after_distribute batch (fed_in state spoiled) state)
groups-after folds state tables dims batch flight spoiled sound are there =
    slots-left state (after_flight batch (fed_in state spoiled) flight state) dims flight.rows tables.versions spoiled
    (slots-stay (fed_in state spoiled) state.lives)
    (slot-left folds state tables dims flight sound are (found-flight state batch flight there) (found-sound state batch flight sound there) batch spoiled)
    ∙ ap attached_to (sym (distributed batch (fed_in state spoiled) flight state there))

pub attached-after : FoldsTheSame → (state : State) (tables : KeyedStore) (dims : List (Roomy DimensionRow)) (batch : ℕ) (flight : Flight) (spoiled : ℕ)
    (attached : List (Option Grouped)) → IsSound state → AreKeyedTablesOf state tables dims → flight_at state.scan.flights batch ≡ Some flight
    → HasWhatIsKept state attached
    → HasWhatIsKept (after_distribute batch (fed_in state spoiled) state) (after_batch dims flight.rows tables.versions spoiled attached)
attached-after folds state tables dims batch flight spoiled attached sound are there old =
    subst (λ core. HasWhatIsKept core (after_batch dims flight.rows tables.versions spoiled attached))
    (sym (distributed batch (fed_in state spoiled) flight state there))
    (others-left state (after_flight batch (fed_in state spoiled) flight state) dims flight.rows tables.versions spoiled
    (slots-stay (fed_in state spoiled) state.lives)
    (slot-left folds state tables dims flight sound are (found-flight state batch flight there) (found-sound state batch flight sound there) batch spoiled)
    attached old)

-- the queries of slots that have rows of a batch get rows of it
pub fed-after : (state : State) (batch : ℕ) (flight : Flight) (spoiled : ℕ) → IsSound state → flight_at state.scan.flights batch ≡ Some flight
    → HaveRows spoiled flight.rows.bits → AreFed batch (fed_in state spoiled) state
fed-after state batch flight spoiled sound there rows = record {
  apart = fed-apart state sound.slots.lives spoiled;
  each = all-fed (λ query. IsFed batch query state) state spoiled (λ slot query has is. record {
    on = subst (λ o. IsSomeAnd o (λ f. Any (λ entry. entry.number ≡ query) f.roster)) (sym there) (on slot query has is);
    gets = (fed-holds state slot query is).2;
  });
}
  where
    sound_batch : IsSoundBatch (frame_words state) (tables_of state) state.lives state.accepted flight
    sound_batch = found-sound state batch flight sound there

    on : (slot query : ℕ) → Has spoiled slot → fed_at state slot ≡ Some query → Any (λ entry. entry.number ≡ query) flight.roster
    on slot query has is =
        let row = rows slot has in
        let found = entry-of state flight sound_batch row.0 slot row.1 in
        let held = (All-contains (IsOnRoster state.lives state.accepted) flight.roster found.0 sound_batch.roster found.1).held in
        let holds = fed-holds state slot query is in
        let same : Held found.0.number held.0 ≡ Held query holds.0 = sym held.1 ∙ ap (slot_at state.lives) found.2 ∙ holds.1 in
        let number : found.0.number ≡ query = cc in
        (found.1.0, found.0, found.1.1, found.1.2, number)
