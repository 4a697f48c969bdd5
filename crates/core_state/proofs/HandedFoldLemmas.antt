-- What a batch brings a query that gets rows is what a distributor folds for it.
use Rattle.core_state.proofs.Words.{◌∙◌, ◌≡◌, Accepted, accepted_at, All-contains, All-contains_itself, ap, AreKeyedTablesOf, Contains, DimensionRow, eq-eqb, eqb, eqb-true, false, Flight, frame_words, get_or, Grouped, grouped_of, Has, Held, IsOnRoster, IsSound, IsSoundBatch, IsSoundQuery, Joined, KeyedStore, List, None, OnRoster, Option, option_map, refl, Roomy, rows_for, slot_at, Some, State, sym, tables_of, true, with_batch, with_rows, with_versions, ℕ}
use Rattle.core_state.proofs.AcceptedLemmas.{find-holds, find-none, of-accepted}
use Rattle.core_state.proofs.FoundLemmas.{find-passes, some-at}
use Rattle.core_state.proofs.HandedBatchLemmas.{entry-of, fed-groups, none-for}
use Rattle.core_state.proofs.HandedSlotLemmas.{gets, one-slot}
use Rattle.core_state.proofs.LandedLemmas.{entry_for, fed-absent, fed-there, fed_by}

-- the rows of a batch go into the groups of a query as the core folds them
abbrev pub FoldsTheSame : Type 0
FoldsTheSame = (state : State) (tables : KeyedStore) (dims : List (Roomy DimensionRow)) (flight : Flight) (entry : OnRoster) (rows : List Joined)
    → IsSound state → AreKeyedTablesOf state tables dims → Contains state.scan.flights flight → Contains flight.roster entry
    → with_batch dims flight.rows tables.versions entry.slot (grouped_of entry.query rows)
    ≡ with_rows (rows_for (tables_of state) flight.rows entry) (grouped_of entry.query rows)

module _ (folds : FoldsTheSame) (state : State) (tables : KeyedStore) (dims : List (Roomy DimensionRow)) (flight : Flight) (sound : IsSound state)
    (are : AreKeyedTablesOf state tables dims) (flies : Contains state.scan.flights flight) (batch : IsSoundBatch (frame_words state) (tables_of state) state.lives state.accepted flight) where
  -- what a distributor makes of the groups at a slot
  abbrev pub folded : (slot : ℕ) → Grouped → Grouped
  folded slot = with_batch dims flight.rows tables.versions slot

  -- who is on the roster with a slot holds it
  on-roster : (entry : OnRoster) → Contains flight.roster entry → IsOnRoster state.lives state.accepted entry
  on-roster entry on = All-contains (IsOnRoster state.lives state.accepted) flight.roster entry batch.roster on

  -- a query that gets rows has what the batch brings it
  pub fed-as-folded : (slot built : ℕ) (accepted : Accepted) → slot_at state.lives slot ≡ Held accepted.number built
      → accepted_at state.accepted accepted.number ≡ Some accepted → gets state.lives accepted.number ≡ true
      → option_map (folded slot) accepted.groups ≡ (fed_by state flight accepted).groups
  fed-as-folded slot built accepted holds there yet = by_entry (entry_for accepted.number flight) refl
    where
      number_of : (entry : OnRoster) → Contains flight.roster entry → entry.slot ≡ slot → entry.number ≡ accepted.number
      number_of entry on same =
          let held = (on-roster entry on).held in
          let both : Held entry.number held.0 ≡ Held accepted.number built = sym held.1 ∙ ap (slot_at state.lives) same ∙ holds in cc

      by_entry : (o : Option OnRoster) → entry_for accepted.number flight ≡ o
          → option_map (folded slot) accepted.groups ≡ (fed_by state flight accepted).groups
      by_entry None is =
          let none : (row : ℕ) → Has (get_or flight.rows.bits row 0) slot → ⊥ = λ row has.
          let found = entry-of state flight batch row slot has in
          let other : eqb found.0.number accepted.number ≡ false =
          All-contains (λ e. eqb e.number accepted.number ≡ false) flight.roster found.0 (find-none (λ e. eqb e.number accepted.number) flight.roster is) found.1 in
          let both : true ≡ false = sym (eq-eqb found.0.number accepted.number (number_of found.0 found.1 found.2)) ∙ other in cc in
          let empty = none-for flight slot tables.versions batch.bits none in
          ap (λ versions. option_map (with_versions dims versions) accepted.groups) empty
          ∙ same_groups accepted.groups
          ∙ ap (λ a. a.groups) (sym (fed-absent state flight accepted is))
        where
          same_groups : (o : Option Grouped) → option_map (λ groups. groups) o ≡ o
          same_groups None = refl
          same_groups (Some groups) = refl
      by_entry (Some entry) is =
          let on : Contains flight.roster entry =
          find-holds (Contains flight.roster) (λ e. eqb e.number accepted.number) flight.roster entry is (All-contains_itself flight.roster) in
          let number : entry.number ≡ accepted.number = eqb-true entry.number accepted.number (find-passes (λ e. eqb e.number accepted.number) flight.roster entry is) in
          let held = (on-roster entry on).held in
          let place : entry.slot ≡ slot = one-slot state.lives sound.slots.lives entry.slot slot accepted.number held.0 built
          (held.1 ∙ ap (λ n. Held n held.0) number) holds in
          let same = some-at (λ a. (a.query ≡ entry.query) × (a.snapshot ≡ entry.snapshot)) (accepted_at state.accepted entry.number) accepted
          (ap (accepted_at state.accepted) number ∙ there) (on-roster entry on).same in
          let of_query : IsSoundQuery state accepted = (of-accepted state accepted.number accepted sound.queries there).0 in
          let has = fed-groups state accepted of_query yet in
          let groups : accepted.groups ≡ Some (grouped_of entry.query has.0) = has.1 ∙ ap (λ q. Some (grouped_of q has.0)) same.0 in
          ap (option_map (folded slot)) groups
          ∙ ap (λ s. Some (folded s (grouped_of entry.query has.0))) (sym place)
          ∙ ap Some (folds state tables dims flight entry has.0 sound are flies on)
          ∙ ap (option_map (with_rows (rows_for (tables_of state) flight.rows entry))) (sym groups)
          ∙ ap (λ a. a.groups) (sym (fed-there state flight accepted entry is yet))
