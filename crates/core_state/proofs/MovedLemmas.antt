-- A core whose lives, filters and numbers change is sound where what these changes touch is.
use Rattle.core_state.proofs.Words.{◌≡◌, All, AreSoundFilters, AreSoundQueries, AreSoundSeats, AreSoundSlots, AreSoundVersions, arith, Filters, frame_words, Free, get_or, IfSome, IsOnRoster, IsSound, IsSoundOrder, life_in, List, None, Numbers, QueryLife, refl, ScanState, SlotState, Some, State, tables_of, ℕ}
use Rattle.pipeline_manager.specs.declared.life.Life.TheVariants as life
use Rattle.core_state.proofs.FrameLemmas.{Told, Wanted, batches-with, moved, seat-lasts}

-- the core with other lives of the same filters, other filters, and another number of the last version
abbrev pub held_now : State → List QueryLife → List SlotState → Filters → (version : ℕ) → State
held_now state queries slots filters version =
    moved state queries slots filters state.scan (record state.numbers { version = version })

-- a query that is not abandoned is not now, one whose reply was taken is as it was, and one that is abandoned stays so
abbrev pub StaysWanted : State → List QueryLife → Type 0
StaysWanted state queries = (query : ℕ)
    → (IfSome (life_in state.lives.queries query) Wanted → IfSome (life_in queries query) Wanted)
    × (IfSome (life_in state.lives.queries query) Told → IfSome (life_in queries query) Told)
    × (life_in state.lives.queries query ≡ Some life.Abandoned → life_in queries query ≡ Some life.Abandoned)

-- seats stay sound where what they wait for is wanted still
pub seats-held : (state : State) (queries : List QueryLife) (slots : List SlotState) (filters : Filters) (scan : ScanState) (numbers : Numbers)
    → numbers.statement ≡ state.numbers.statement → StaysWanted state queries → AreSoundSeats state
    → AreSoundSeats (moved state queries slots filters scan numbers)
seats-held state queries slots filters scan numbers same wanted old = record {
  count = old.count;
  each = λ k d low. let seat = get_or state.seats k d in
      seat-lasts state.numbers.statement numbers.statement state.accepted state.accepted state.lives.queries queries seat (omega arith)
      (λ number given. record { none = λ none. none; has = λ query snapshot has. has; told = (wanted number).1; lost = (wanted number).2 })
      (λ j e inside given. (wanted (get_or seat.pending j e).statement).0) (old.each k d low);
  apart = old.apart;
  rising = old.rising;
  entries = old.entries;
  queries = old.queries;
}

-- what a change of lives and filters has to give
pub record Holds (state : State) (queries : List QueryLife) (slots : List SlotState) (filters : Filters) (version : ℕ) : Type 0 where
  pub filters_now : AreSoundFilters (held_now state queries slots filters version)
  pub rosters : All (λ flight. All (IsOnRoster (record state.lives { queries = queries; slots = slots }) state.accepted) flight.roster) state.scan.flights
  pub queries_now : AreSoundQueries (held_now state queries slots filters version)
  pub slots_now : AreSoundSlots (held_now state queries slots filters version)
  pub quiet : (tables_of state).schema.fact ≡ None → All (λ slot. slot ≡ Free) slots
  pub versions : AreSoundVersions version filters.versions state.scan.flights
  pub unnumbered : (tables_of state).schema.fact ≡ None → version ≡ 0
  pub order : IsSoundOrder filters
  pub wanted : StaysWanted state queries

pub sound-held : (state : State) (queries : List QueryLife) (slots : List SlotState) (filters : Filters) (version : ℕ)
    → Holds state queries slots filters version → IsSound state → IsSound (held_now state queries slots filters version)
sound-held state queries slots filters version now old = record {
  settings = old.settings;
  filters = now.filters_now;
  batches = batches-with (frame_words state) (tables_of state) state.lives queries slots state.accepted state.accepted state.scan.flights now.rosters old.batches;
  hands = record { each = old.hands.each; one = old.hands.one };
  queries = now.queries_now;
  slots = now.slots_now;
  store = old.store;
  ends = old.ends;
  quiet = λ none. ((old.quiet none).0, (old.quiet none).1, now.quiet none);
  numbers = record { apart = old.numbers.apart; given = old.numbers.given; versions = now.versions; unnumbered = now.unnumbered };
  scan = record { frames = old.scan.frames; position = old.scan.position };
  order = now.order;
  seats = seats-held state queries slots filters state.scan (record state.numbers { version = version }) refl now.wanted old.seats;
}
