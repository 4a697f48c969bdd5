-- Filters and hands stay sound where the tables grow.
use Rattle.core_state.proofs.Words.{◌<◌, ◌↔◌, ◌∙◌, ◌≡◌, ◌≤◌, Accepted, accepted_at, All-weaker, ap, AreSoundFilters, AreSoundHands, arith, Contains, DimensionRow, Encodes, Entry, eqb, Filter, filter_dimensions, FitsSlot, Flight, get_or, Hand, Has, Held, IfSome_then, IsOnRoster, IsSound, IsSoundFilter, IsSoundHand, IsSoundQuery, IsTrue, length, length-append, List, OnRoster, Query, rows_in, selection_in, slot_at, SlotState, Some, State, Store, subst, sym, tables_by, tables_of, takes, vector_of, ℕ}
use Rattle.core_state.specs.Flown.{IsSoundTask}
use Rattle.core_state.proofs.AcceptedLemmas.{accepted-on, find-holds}
use Rattle.core_state.proofs.FoundLemmas.{some-at, some-by}
use Rattle.core_state.proofs.GrownRowsLemmas.{Behind, Grows, some-behind}

-- the core with other entries
abbrev pub entered : State → List Entry → State
entered state entries = record state { entries = entries }

-- an accepted query that is found has a snapshot so far
snapshot-found : (state : State) → IsSound state → (number : ℕ) (accepted : Accepted) → accepted_at state.accepted number ≡ Some accepted
    → accepted.snapshot ≤ (tables_of state).commits
snapshot-found state sound number accepted found =
    let of_query : IsSoundQuery state accepted =
    find-holds (IsSoundQuery state) (λ a. eqb a.number number) state.accepted accepted found sound.queries.each in
    of_query.snapshot

-- a query on a roster has a snapshot so far
pub snapshot-on : (state : State) → IsSound state → (entry : OnRoster) → IsOnRoster state.lives state.accepted entry → entry.snapshot ≤ (tables_of state).commits
snapshot-on state sound entry on =
    let is = accepted-on state sound entry on in
    subst (λ snapshot. snapshot ≤ (tables_of state).commits) is.3 (snapshot-found state sound entry.number is.0 is.1)

-- a filter has a query in a slot also where rows came that the query does not see
encodes-behind : (commits : ℕ) (filter : Filter) (slot : ℕ) (query : Query) (snapshot : ℕ) (rows others : List DimensionRow)
    → snapshot ≤ commits → Behind commits rows others → Encodes filter slot query snapshot rows → Encodes filter slot query snapshot others
encodes-behind commits filter slot query snapshot rows others low behind old =
    subst (Encodes filter slot query snapshot) (sym behind.1) (record {
      taken = λ key. some-behind (Says key) rows behind.0 key (old.taken key)
          (λ k d within came. absurd (let later = behind.2 k d within in omega arith));
      others = old.others;
    })
  where
    Says : (key : ℕ) → DimensionRow → Type 0
    Says key entry = entry.commit ≤ snapshot → Has (vector_of filter key) slot ↔ IsTrue (takes (selection_in query filter.dimension) entry.row)

pub encodes-grown : (before after : Store) (filter : Filter) (slot : ℕ) (query : Query) (snapshot : ℕ) → Grows before after
    → snapshot ≤ before.commits → Encodes filter slot query snapshot (rows_in before.dimensions filter.dimension)
    → Encodes filter slot query snapshot (rows_in after.dimensions filter.dimension)
encodes-grown before after filter slot query snapshot grows low =
    encodes-behind before.commits filter slot query snapshot (rows_in before.dimensions filter.dimension)
    (rows_in after.dimensions filter.dimension) low (grows.rows filter.dimension)

fits-grown : (state : State) (entries : List Entry) → IsSound state → Grows (tables_of state) (tables_by entries) → (filter : Filter) (slot : ℕ)
    (holder : SlotState) → FitsSlot state.accepted (tables_of state) filter slot holder → FitsSlot state.accepted (tables_by entries) filter slot holder
fits-grown state entries sound grows filter slot (Held query built) fits = (
  λ has. some-by
      (λ accepted. Encodes filter slot accepted.query accepted.snapshot (rows_in (tables_by entries).dimensions filter.dimension))
      (accepted_at state.accepted query)
      (λ accepted found. encodes-grown (tables_of state) (tables_by entries) filter slot accepted.query accepted.snapshot grows
      (snapshot-found state sound query accepted found)
      (some-at (λ a. Encodes filter slot a.query a.snapshot (rows_in (tables_of state).dimensions filter.dimension))
      (accepted_at state.accepted query) accepted found (fits.0 has))),
  fits.1,
)
fits-grown state entries sound grows filter slot other fits = fits

filter-grown : (state : State) (entries : List Entry) → IsSound state → Grows (tables_of state) (tables_by entries) → (filter : Filter)
    → IsSoundFilter state.accepted (tables_of state) state.lives.slots state.lives.filters filter → IsSoundFilter state.accepted (tables_by entries) state.lives.slots state.lives.filters filter
filter-grown state entries sound grows filter old = record {
  table = old.table;
  ascending = old.ascending;
  is_filter = old.is_filter;
  slots = λ slot there. fits-grown state entries sound grows filter slot (slot_at state.lives slot) (old.slots slot there);
  beyond = old.beyond;
  within = λ key stored.
      let behind = grows.rows filter.dimension in
      let rows = rows_in (tables_of state).dimensions filter.dimension in
      let low = old.within key stored in
      subst (λ (all : List DimensionRow). key < length all) (sym behind.1) (omega (arith, length-append rows behind.0));
}

pub filters-grown : (state : State) (entries : List Entry) → IsSound state → Grows (tables_of state) (tables_by entries)
    → AreSoundFilters (entered state entries)
filters-grown state entries sound grows = record {
  each = λ k d low.
      filter-grown state entries sound grows (get_or state.filters.versions k d).filter (sound.filters.each k d low);
  dimensions = sound.filters.dimensions ∙ ap filter_dimensions (sym grows.schema);
  set = λ dimension. subst (λ schema. Has state.lives.filters dimension ↔ Contains (filter_dimensions schema) dimension) (sym grows.schema)
      (sound.filters.set dimension);
}

task-grown : (state : State) (entries : List Entry) → IsSound state → Grows (tables_of state) (tables_by entries) → (flight : Flight) (filter : Filter)
    → ((k : ℕ) (d : OnRoster) → k < length flight.roster → IsOnRoster state.lives state.accepted (get_or flight.roster k d))
    → IsSoundTask state.lives.filters (tables_of state) flight filter → IsSoundTask state.lives.filters (tables_by entries) flight filter
task-grown state entries sound grows flight filter roster old = record {
  table = old.table;
  is_filter = old.is_filter;
  not_passed = old.not_passed;
  encodes = λ k d low.
      let entry = get_or flight.roster k d in
      encodes-grown (tables_of state) (tables_by entries) filter entry.slot entry.query entry.snapshot grows
      (snapshot-on state sound entry (roster k d low)) (old.encodes k d low);
}

pub hand-grown : (state : State) (entries : List Entry) → IsSound state → Grows (tables_of state) (tables_by entries) → (flight : Flight) (hand : Hand)
    → ((k : ℕ) (d : OnRoster) → k < length flight.roster → IsOnRoster state.lives state.accepted (get_or flight.roster k d))
    → IsSoundHand (length state.seats) state.lives.filters (tables_of state) flight hand → IsSoundHand (length state.seats) state.lives.filters (tables_by entries) flight hand
hand-grown state entries sound grows flight hand roster old = record {
  seat = old.seat;
  each = All-weaker (λ version. IsSoundTask state.lives.filters (tables_of state) flight version.filter)
      (λ version. IsSoundTask state.lives.filters (tables_by entries) flight version.filter)
      (λ version. task-grown state entries sound grows flight version.filter roster) hand.versions old.each;
  apart = old.apart;
}

pub hands-grown : (state : State) (entries : List Entry) → IsSound state → Grows (tables_of state) (tables_by entries)
    → AreSoundHands (entered state entries)
hands-grown state entries sound grows = record {
  each = λ k d low.
      let flight = get_or state.scan.flights k d in
      IfSome_then flight.hand (sound.hands.each k d low)
      (λ hand. hand-grown state entries sound grows flight hand (sound.batches k d low).roster);
  one = sound.hands.one;
}
