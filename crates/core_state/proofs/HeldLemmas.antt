-- What stays sound of slots, queries and filters where one slot or one life is written.
use Rattle.core_state.proofs.Words.{◌<◌, ◌∙◌, ◌≡◌, ◌≢◌, Accepted, AreSoundFilters, AreSoundQueries, arith, cases_lt, Filter, Filters, FitsSlot, Free, get_or, get_or-set_other, get_or_past, IfSome, IsOnRoster, IsSoundFilter, IsSoundQuery, length, length-set, List, map, Numbers, OnRoster, query_in, QueryLife, ScanState, set, slot_at, SlotState, State, subst, sym, tables_of, ℕ, ⊎_elim}
use Rattle.core_state.proofs.FrameLemmas.{LivesAs, StaysOnRoster, at-set, filter-with, moved, query-with}
use Rattle.core_state.proofs.MovedLemmas.{held_now}

-- a slot that is not Free is there
pub slot-there : (slots : List SlotState) (slot : ℕ) → get_or slots slot Free ≢ Free → slot < length slots
slot-there slots slot used = ⊎_elim (λ low. low) (λ past. absurd (used (get_or_past slots slot Free past))) (cases_lt slot (length slots))

-- each slot has what it asks for where the written one has
pub fits-set : (state : State) (slot : ℕ) (now : SlotState) (filter : Filter) (other : ℕ) → FitsSlot state.accepted (tables_of state) filter slot now
    → other < length state.lives.slots → FitsSlot state.accepted (tables_of state) filter other (slot_at state.lives other)
    → FitsSlot state.accepted (tables_of state) filter other (get_or (set state.lives.slots slot now) other Free)
fits-set state slot now filter other fits low old =
    at-set (FitsSlot state.accepted (tables_of state) filter other) state.lives.slots slot other now Free low
    (λ same. subst (λ at. FitsSlot state.accepted (tables_of state) filter at now) (sym same) fits) (λ apart. old)

-- the filters are sound where each slot has what it asks for
pub filters-held : (state : State) (queries : List QueryLife) (slots : List SlotState) (version : ℕ) (order : List ℕ) → length slots ≡ length state.lives.slots
    → ((filter : Filter) → IsSoundFilter state.accepted (tables_of state) state.lives.slots state.lives.filters filter → (slot : ℕ)
    → slot < length state.lives.slots → FitsSlot state.accepted (tables_of state) filter slot (slot_at state.lives slot)
    → FitsSlot state.accepted (tables_of state) filter slot (get_or slots slot Free))
    → AreSoundFilters state → AreSoundFilters (held_now state queries slots (record state.filters { order = order }) version)
filters-held state queries slots version order count fits old = record {
  each = λ k d low. let filter = (get_or state.filters.versions k d).filter in
      filter-with state.accepted state.accepted (tables_of state) state.lives.slots slots state.lives.filters filter count
      (fits filter (old.each k d low)) (old.each k d low);
  dimensions = old.dimensions;
  set = old.set;
}

-- a slot that is written is on no roster, or is held as it was
pub entry-set : (state : State) (queries : List QueryLife) (slot : ℕ) (now : SlotState) (entry : OnRoster)
    → entry.slot ≢ slot → StaysOnRoster state.lives.queries queries entry.number → IsOnRoster state.lives state.accepted entry
    → IsOnRoster (record state.lives { queries = queries; slots = set state.lives.slots slot now }) state.accepted entry
entry-set state queries slot now entry apart stays old = record {
  there = let low = old.there in let count = length-set state.lives.slots slot now in omega arith;
  held = (old.held.0, get_or-set_other state.lives.slots slot entry.slot now Free apart ∙ old.held.1, old.held.2);
  life = stays.0 old.life;
  same = old.same;
  extent = stays.1 ∙ old.extent;
}

-- the accepted queries are sound where each is by its life
pub queries-held : (state : State) (queries : List QueryLife) (slots : List SlotState) (filters : Filters) (scan : ScanState) (numbers : Numbers)
    → numbers.statement ≡ state.numbers.statement
    → map (λ entry. entry.query) queries ≡ map (λ entry. entry.query) state.lives.queries
    → ((accepted : Accepted) → IsSoundQuery state accepted
    → IfSome (query_in queries accepted.number) (LivesAs (tables_of state) state.seats scan accepted accepted))
    → AreSoundQueries state → AreSoundQueries (moved state queries slots filters scan numbers)
queries-held state queries slots filters scan numbers given same each old = record {
  same = old.same ∙ sym same;
  each = λ k d low.
      let accepted = get_or state.accepted k d in
      query-with state.numbers.statement numbers.statement (tables_of state) state.lives.queries queries state.seats state.seats
      state.scan scan accepted accepted.groups (omega arith) (each accepted (old.each k d low)) (old.each k d low);
}
