-- Slot by slot a distributor has after a batch what the core keeps.
use Rattle.core_state.proofs.Words.{◌∙◌, ◌≡◌, Accepted, accepted_at, after_distribute, ap, AreKeyedTablesOf, attached_at, bit_at, Bool, Clearing, cond, Contains, DimensionRow, eqb, eqb-true, false, fed_in, Flight, flight_at, frame_words, Free, get_or, gets_rows, Grouped, groups_in, Held, holder_of, IsSound, IsSoundBatch, KeyedStore, List, list_any, map, None, Option, option_and_then, option_map, option_map_or, refl, Roomy, slot_at, SlotState, Some, State, sym, tables_of, true, unkept, with_batch, ℕ}
use Rattle.core_state.proofs.AcceptedLemmas.{holder-accepted}
use Rattle.core_state.proofs.AnewLemmas.{found-anew}
use Rattle.core_state.proofs.HandedFoldLemmas.{FoldsTheSame, fed-as-folded}
use Rattle.core_state.proofs.HandedLivesLemmas.{others-stay, slots-stay, spoiled-none, spoiled_all, still-kept, still-none}
use Rattle.core_state.proofs.HandedSlotLemmas.{fed-among, gets, held-there, holds-fed, kept-none, kept-some, kept_by, not-among}
use Rattle.core_state.proofs.LandedLemmas.{fed_by, feeds, landed}
use Rattle.core_state.proofs.WholeFrameLemmas.{unkeeps}

-- the core after a batch, where these queries found no memory
abbrev pub after_flight : (batch : ℕ) → List ℕ → Flight → State → State
after_flight batch queries flight state = record (landed batch flight state) {
  accepted = map (unkept queries) (landed batch flight state).accepted;
  lives = spoiled_all queries state.lives;
}

pub distributed : (batch : ℕ) (queries : List ℕ) (flight : Flight) (state : State) → flight_at state.scan.flights batch ≡ Some flight
    → after_distribute batch queries state ≡ after_flight batch queries flight state
distributed batch queries flight state there = ap (λ o. option_map_or (λ f. after_flight batch queries f state) o state) there

-- the queries of a set of slots that found no memory, and the core after the batch
module _ (folds : FoldsTheSame) (state : State) (tables : KeyedStore) (dims : List (Roomy DimensionRow)) (flight : Flight) (sound : IsSound state)
    (are : AreKeyedTablesOf state tables dims) (flies : Contains state.scan.flights flight) (batch : IsSoundBatch (frame_words state) (tables_of state) state.lives state.accepted flight) (number spoiled : ℕ) where
  -- what a distributor makes of the groups at a slot
  abbrev folded : (slot : ℕ) → Grouped → Grouped
  folded slot = with_batch dims flight.rows tables.versions slot

  abbrev queries : List ℕ
  queries = fed_in state spoiled

  abbrev now : State
  now = after_flight number queries flight state

  -- what a distributor has at a slot after the batch, where it had these groups
  abbrev left_at : (slot : ℕ) → Option Grouped → Option Grouped
  left_at slot attached = cond {A = Option Grouped} (eqb (bit_at spoiled slot) 1) None (option_map (folded slot) attached)

  nothing-left : (slot : ℕ) → left_at slot None ≡ None
  nothing-left slot = by_test (eqb (bit_at spoiled slot) 1)
    where
      by_test : (t : Bool) → cond {A = Option Grouped} t None None ≡ None
      by_test true = refl
      by_test false = refl

  -- what is kept of a query that found memory
  kept-after : (slot query built : ℕ) → slot_at state.lives slot ≡ Held query built → gets state.lives query ≡ true
      → list_any (λ other. eqb other query) queries ≡ false → option_map (folded slot) (groups_in state query) ≡ groups_in now query
  kept-after slot query built holds yet none =
      let asked = holder-accepted state slot query built sound (held-there state.lives slot query built holds) holds in
      let accepted : Accepted = asked.0 in
      let fed : (fed_by state flight accepted).number ≡ query = ap (λ a. a.number) (feeds state flight accepted).1 ∙ asked.3 in
      let found : accepted_at now.accepted query ≡ Some (fed_by state flight accepted) =
      found-anew (unkept queries) (unkeeps queries) query (map (fed_by state flight) state.accepted)
      ∙ ap (option_map (unkept queries)) (found-anew (fed_by state flight) (feeds state flight) query state.accepted
      ∙ ap (option_map (fed_by state flight)) asked.1)
      ∙ ap Some (still-kept queries query (fed_by state flight accepted) fed none) in
      ap (λ o. option_map (folded slot) (option_map_or (λ (a : Accepted). a.groups) o None)) asked.1
      ∙ fed-as-folded folds state tables dims flight sound are flies batch slot built accepted (holds ∙ ap (λ n. Held n built) (sym asked.3))
      (ap (accepted_at state.accepted) asked.3 ∙ asked.1) (ap (gets state.lives) asked.3 ∙ yet)
      ∙ ap (λ o. option_map_or (λ (a : Accepted). a.groups) o None) (sym found)

  held-left : (slot query built : ℕ) → slot_at state.lives slot ≡ Held query built → left_at slot (kept_by state (Some query)) ≡ kept_by now (Some query)
  held-left slot query built holds = by_gets (gets state.lives query) refl
    where
      by_bit : gets state.lives query ≡ true → (t : Bool) → eqb (bit_at spoiled slot) 1 ≡ t
          → cond {A = Option Grouped} t None (option_map (folded slot) (groups_in state query)) ≡ kept_by now (Some query)
      by_bit yet true has = sym (kept-none now query (spoiled-none queries query state.lives
          (fed-among state spoiled slot query (eqb-true (bit_at spoiled slot) 1 has) (holds-fed state slot query built holds yet))))
      by_bit yet false has =
          let none = not-among state sound.slots.lives spoiled slot query built holds has in
          let still : gets now.lives query ≡ true = ap (λ o. option_map_or gets_rows o false) (others-stay queries query state.lives none) ∙ yet in
          kept-after slot query built holds yet none ∙ sym (kept-some now query still)

      by_gets : (t : Bool) → gets state.lives query ≡ t
          → left_at slot (option_and_then (groups_in state) (cond {A = Option ℕ} t (Some query) None)) ≡ kept_by now (Some query)
      by_gets false is = nothing-left slot ∙ sym (kept-none now query (still-none queries query state.lives is))
      by_gets true is = by_bit is (eqb (bit_at spoiled slot) 1) refl

  -- slot by slot a distributor has after the batch what the core keeps
  pub slot-left : (slot : ℕ) → left_at slot (attached_at state slot) ≡ attached_at now slot
  slot-left slot =
      by_slot (slot_at state.lives slot) refl
      ∙ ap (λ slots. kept_by now (holder_of (get_or slots slot Free))) (sym (slots-stay queries state.lives))
    where
      by_slot : (s : SlotState) → slot_at state.lives slot ≡ s → left_at slot (kept_by state (holder_of s)) ≡ kept_by now (holder_of s)
      by_slot Free holds = nothing-left slot
      by_slot (Held query built) holds = held-left slot query built holds
      by_slot (Clearing left) holds = nothing-left slot
