-- What holds of every core, whatever events made it: a record for each subject.
use Rattle.std.specs.Prelude.{◌≡◌, ◌≢◌, ℕ, ◌+◌, ◌<◌, ◌≤◌, ◌↔◌, ◌⊎◌, ◌==◌, nat_lt, List, [], ◌++◌, length, map, filter, filter_map, find, flat_map, slice_get, slice_index_or, replicate, All, AllPairs, Contains, Some, None, option_map, IfSome, IsSomeAnd, IsTrue}
use Rattle.std.specs.List.{range_with_len}
use Rattle.std.specs.List.Sorted.{IsPermutation}
use Rattle.std.specs.Option.{option_map_or}
use Rattle.bit_words.specs.Sets.{Has}
use Rattle.star_plan.specs.Joined.{Joined, kept_of}
use Rattle.star_plan.specs.Over.{IsOver}
use Rattle.star_plan.specs.Test.{Query}
use Rattle.fact_versions.specs.Visible.{is_visible}
use Rattle.query_meaning.specs.Accepted.{AcceptsAll}
use Rattle.query_meaning.specs.Alone.{joined, kept}
use Rattle.query_meaning.specs.Store.{PlainVersion, Store, empty_store}
use Rattle.pipeline_manager.specs.Conditions.{is_open}
use Rattle.pipeline_manager.specs.Lives.{life_in, life_of, query_in, slot_at}
use Rattle.pipeline_manager.specs.Sound as managed
use Rattle.pipeline_manager.specs.declared.life.Life.{Life}
use Rattle.pipeline_manager.specs.declared.life.Life.TheVariants as life
use Rattle.pipeline_manager.specs.declared.life.QueryLife.{QueryLife}
use Rattle.pipeline_manager.specs.declared.life.SlotState.TheVariants.{Free, Held}
use Rattle.continuous_scan.specs.Lap.{lap, lap_start, next_below, place_in_lap, still_to_come}
use Rattle.aggregations.specs.Grouped.{grouped_of}
use Rattle.core_state.specs.Cutting.{frame_words, gets_rows}
use Rattle.core_state.specs.Flown.{IsSoundBatch, IsSoundFilter, IsSoundHand}
use Rattle.core_state.specs.Found.{accepted_at, version_at}
use Rattle.core_state.specs.Logged.{EndsAscending}
use Rattle.core_state.specs.Numbered.{last_number}
use Rattle.core_state.specs.Settings.{AreWithin, frames_of}
use Rattle.core_state.specs.State.{Accepted, Asked, Awaited, Filters, FilterVersion, Flight, Replied, ScanState, Seat, State}
use Rattle.core_state.specs.Submitting.{empty_seat, seat_at}
use Rattle.core_state.specs.declared.settings.RunSettings.{RunSettings}
use Rattle.core_state.specs.Tables.{changes_of, filter_dimensions, tables_of, versions_in}
use Rattle.core_state.specs.Whole.{IsAccountedFor}

-- the filters: one for each dimension that the fact table references, ascending, each sound
pub record AreSoundFilters (state : State) : Type 0 where
  pub each : All (λ version. IsSoundFilter state.accepted (tables_of state) state.lives.slots
      state.lives.filters version.filter) state.filters.versions
  pub dimensions : map (λ version. version.filter.dimension) state.filters.versions
      ≡ filter_dimensions (tables_of state).schema
  pub set : (dimension : ℕ)
      → Has state.lives.filters dimension
      ↔ Contains (filter_dimensions (tables_of state).schema) dimension

-- the batches in flight
abbrev pub AreSoundBatches : State → Type 0
AreSoundBatches state =
    All (IsSoundBatch (frame_words state) (tables_of state) state.lives state.accepted)
    state.scan.flights

-- what is in hands; no worker has two batches
pub record AreSoundHands (state : State) : Type 0 where
  pub each : All (λ flight. IfSome flight.hand
      (IsSoundHand (length state.seats) state.lives.filters (tables_of state) flight))
      state.scan.flights
  pub one : AllPairs (λ worker other. worker ≢ other)
      (filter_map (λ flight. option_map (λ hand. hand.worker) flight.hand) state.scan.flights)

-- the versions at some positions, in their order
abbrev pub versions_at : List ℕ → List PlainVersion → List PlainVersion
versions_at positions versions =
    filter_map (λ position. slice_get versions position) positions

-- the joined rows of a query at some positions that it keeps at its snapshot
abbrev pub kept_at : Store → Query → (snapshot : ℕ) → List ℕ → List Joined
kept_at store query snapshot positions =
    kept_of query (map (λ version. joined store query snapshot version.row)
    (filter (λ version. is_visible version.begin version.end snapshot)
    (versions_at positions store.versions)))

-- the positions of a batch below an extent, if a query of this number is on its roster
abbrev pub positions_for : (number extent : ℕ) → Flight → List ℕ
positions_for number extent flight =
    option_map_or (λ entry.
    filter (λ position. nat_lt position extent)
    (range_with_len flight.rows.first flight.rows.count))
    (find (λ entry. entry.number == number) flight.roster) []

-- the positions of a lap that are still to come
abbrev pub to_come : (extent : ℕ) → Life → List ℕ
to_come extent (life.Running start left) = still_to_come left (lap start extent)
to_come extent other = []

-- the next position below the extent that the scan meets is the first of the lap that is not yet
-- cut
abbrev pub IsNext : (position extent : ℕ) → Life → Type 0
IsNext position extent (life.Running start left) =
    place_in_lap (lap_start start extent) extent (next_below position extent) + left ≡ extent
IsNext position extent other = Unit {0}

-- a query that runs or is ending: each position of its extent was folded, or is in one batch in
-- flight, or is still to come, each once; what is kept is what the folded positions give
pub record IsCovered (store : Store) (scan : ScanState) (accepted : Accepted) (extent : ℕ)
    (life : Life) : Type 0 where
  pub folded : List ℕ
  pub each_once : IsPermutation
      (folded ++ flat_map (positions_for accepted.number extent) scan.flights
      ++ to_come extent life)
      (range_with_len 0 extent)
  pub next : IsNext scan.position extent life
  pub groups : accepted.groups
      ≡ Some (grouped_of accepted.query (kept_at store accepted.query accepted.snapshot folded))

-- what is kept of an answered query is what its rows give, in some order
pub record IsAnswer (store : Store) (accepted : Accepted) : Type 0 where
  pub rows : List Joined
  pub all : IsPermutation rows (kept store accepted.query accepted.snapshot)
  pub groups : accepted.groups ≡ Some (grouped_of accepted.query rows)

-- the seat of an accepted query took the reply to it
abbrev pub HasTaken : List Seat → Accepted → Type 0
HasTaken seats accepted =
    Contains (map (λ taken. taken.statement) (slice_index_or seats accepted.seat empty_seat).taken)
    accepted.number

-- what is kept for an accepted query with this life: nothing folded before it starts, what is
-- folded of its lap, the whole of it once it is answered until its seat took the reply, and
-- nothing where it has no answer
abbrev pub IsKept : Store → List Seat → ScanState → Accepted → (extent : ℕ) → Life → Type 0
IsKept store seats scan accepted extent life.Waiting =
    accepted.groups ≡ Some (grouped_of accepted.query [])
IsKept store seats scan accepted extent life.Building =
    accepted.groups ≡ Some (grouped_of accepted.query [])
IsKept store seats scan accepted extent (life.Running start left) =
    IsCovered store scan accepted extent (life.Running start left)
IsKept store seats scan accepted extent life.Ending =
    IsCovered store scan accepted extent life.Ending
IsKept store seats scan accepted extent life.Answered =
    ((accepted.groups ≡ None) × HasTaken seats accepted) ⊎ IsAnswer store accepted
IsKept store seats scan accepted extent life.Spoiled = accepted.groups ≡ None
IsKept store seats scan accepted extent life.Abandoned = accepted.groups ≡ None

-- an accepted query: it has its life, it is one over the schema, its snapshot is a commit so far,
-- its extent is within the table, and what is kept is what its life says; while it is unfinished
-- its extent is the versions that came by its snapshot
pub record IsSoundAccepted (last : ℕ) (store : Store) (queries : List QueryLife)
    (seats : List Seat) (scan : ScanState) (accepted : Accepted) : Type 0 where
  pub number : accepted.number ≤ last
  pub over : IsOver store.schema accepted.query
  pub snapshot : accepted.snapshot ≤ store.commits
  pub within : IfSome (query_in queries accepted.number)
      (λ entry. entry.extent ≤ length store.versions)
  pub kept : IfSome (query_in queries accepted.number)
      (λ entry. IsKept store seats scan accepted entry.extent entry.life)
  pub extent : IfSome (query_in queries accepted.number) (λ entry. IsTrue (is_open entry.life) →
      (position : ℕ) → IfSome (slice_get store.versions position)
      (λ version. (version.begin ≤ accepted.snapshot) ↔ (position < entry.extent)))

-- an accepted query of a core
abbrev pub IsSoundQuery : State → Accepted → Type 0
IsSoundQuery state =
    IsSoundAccepted state.numbers.statement (tables_of state) state.lives.queries state.seats
    state.scan

-- the accepted queries: they are those that have lives, in the same order
pub record AreSoundQueries (state : State) : Type 0 where
  pub same : map (λ accepted. accepted.number) state.accepted
      ≡ map (λ entry. entry.query) state.lives.queries
  pub each : All (IsSoundQuery state) state.accepted

-- the slots and lives, and every filter is built for a query that runs or is ending
pub record AreSoundSlots (state : State) : Type 0 where
  pub lives : managed.AreSoundLives state.lives
  pub count : length state.lives.slots ≡ state.settings.slots
  pub built : (slot query built : ℕ) → slot < length state.lives.slots
      → slot_at state.lives slot ≡ Held query built
      → IfSome (life_of state.lives query) (λ life. IsTrue (gets_rows life)
      → (dimension : ℕ) → Has state.lives.filters dimension → Has built dimension)

-- the history is one whose changes were taken one after the other
abbrev pub IsSoundStore : State → Type 0
IsSoundStore state = AcceptsAll empty_store (changes_of state.entries)

-- before the fact table is declared nothing was asked, and nothing is in flight
abbrev pub IsQuietBefore : State → Type 0
IsQuietBefore state = (tables_of state).schema.fact ≡ None →
    (state.accepted ≡ []) × (state.scan.flights ≡ []) × All (λ slot. slot ≡ Free) state.lives.slots

-- where the present version of a dimension has the number of a version in a
-- hand, it is that version
abbrev pub IsPresentByNumber : List FilterVersion → (held : FilterVersion) → Type 0
IsPresentByNumber versions held =
    IfSome (version_at versions held.filter.dimension) (λ version.
    version.number ≡ held.number → version ≡ held)

-- until the numbers of versions have run out no present version has one above the last one
-- given, nor has one in a hand; and one in a hand that has the dimension and the number of
-- a present one is that one
pub record AreSoundVersions (last : ℕ) (versions : List FilterVersion)
    (flights : List Flight) : Type 0 where
  pub given : last < last_number → All (λ version. version.number ≤ last) versions
  pub held : last < last_number → All (λ flight. IfSome flight.hand
      (λ hand. All (λ version. version.number ≤ last) hand.versions)) flights
  pub present : All (λ flight. IfSome flight.hand
      (λ hand. All (IsPresentByNumber versions) hand.versions)) flights

-- batches in flight have different numbers, and until the numbers have run out none is
-- above the last one given; so it is with versions, of which none has a number before
-- the fact table is declared
pub record AreSoundNumbers (state : State) : Type 0 where
  pub apart : AllPairs (λ flight other. flight.rows.number ≢ other.rows.number) state.scan.flights
  pub given : state.numbers.batch < last_number
      → All (λ flight. flight.rows.number ≤ state.numbers.batch) state.scan.flights
  pub versions : AreSoundVersions state.numbers.version state.filters.versions state.scan.flights
  pub unnumbered : (tables_of state).schema.fact ≡ None → state.numbers.version ≡ 0

-- the free frames and the batches in flight are the frames that were made, and the
-- scan stands within the table
pub record IsSoundScan (state : State) : Type 0 where
  pub frames : state.scan.free + length state.scan.flights ≡ frames_of state.settings
  pub position : state.scan.position ≤ versions_in state

-- each tally has at most as many drops as probes, and the order has each filter once
pub record IsSoundOrder (filters : Filters) : Type 0 where
  pub tallies : All (λ tally. tally.drops ≤ tally.probes) filters.tallies
  pub count : length filters.tallies ≡ length filters.versions
  pub order : IsPermutation (map (λ version. version.filter.dimension) filters.versions)
      filters.order

-- a query of the core has this number, and is this query at this snapshot
abbrev pub HasAccepted : List Accepted → (number : ℕ) → Query → (snapshot : ℕ) → Type 0
HasAccepted accepted number query snapshot =
    IsSomeAnd (accepted_at accepted number)
    (λ asked. (asked.query ≡ query) × (asked.snapshot ≡ snapshot))

-- a statement that a seat waits for: a query is one of the core with its query and its snapshot,
-- and not abandoned; what is no query has no number of one
abbrev pub IsAwaited : List Accepted → List QueryLife → (statement : ℕ) → Awaited → Type 0
IsAwaited accepted queries statement (Replied reply) = accepted_at accepted statement ≡ None
IsAwaited accepted queries statement (Asked query snapshot) =
    HasAccepted accepted statement query snapshot
    × IfSome (life_in queries statement) (λ now. now ≢ life.Abandoned)

-- a statement whose reply a seat took: a query is one of the core with its query and its snapshot,
-- and was answered or replied that it found no memory; what is no query has no number of one
abbrev pub IsTaken : List Accepted → List QueryLife → (statement : ℕ) → Awaited → Type 0
IsTaken accepted queries statement (Replied reply) = accepted_at accepted statement ≡ None
IsTaken accepted queries statement (Asked query snapshot) =
    HasAccepted accepted statement query snapshot
    × IfSome (life_in queries statement) (λ now. (now ≡ life.Answered) ⊎ (now ≡ life.Spoiled))

-- a seat: the numbers that it submitted rise, those that it took and waits for are among them, in
-- the same order, and none is lost
pub record IsSoundSeat (last : ℕ) (accepted : List Accepted) (queries : List QueryLife)
    (seat : Seat) : Type 0 where
  pub rising : AllPairs (λ statement later. statement < later) seat.submitted
  pub given : All (λ statement. statement ≤ last) seat.submitted
  pub in_order : AllPairs (λ statement later. statement < later)
      (map (λ taken. taken.statement) seat.taken ++ map (λ pending. pending.statement) seat.pending)
  pub submitted : All (Contains seat.submitted)
      (map (λ taken. taken.statement) seat.taken ++ map (λ pending. pending.statement) seat.pending)
  pub taken : All (λ taken. IsTaken accepted queries taken.statement taken.told) seat.taken
  pub awaited : All (λ pending. IsAwaited accepted queries pending.statement pending.awaited)
      seat.pending
  pub whole : All (IsAccountedFor queries seat) seat.submitted

-- the seats and the entries: numbers of statements rise along the entries, each stands in its seat,
-- and no number stands in two seats
pub record AreSoundSeats (state : State) : Type 0 where
  pub count : length state.seats ≡ state.settings.seats
  pub each : All (IsSoundSeat state.numbers.statement state.accepted state.lives.queries)
      state.seats
  pub apart : AllPairs (λ seat other.
      (statement : ℕ) → Contains seat.submitted statement → ¬ (Contains other.submitted statement))
      state.seats
  pub rising : AllPairs (λ entry later. entry.statement < later.statement) state.entries
  pub entries : All (λ entry. Contains (seat_at state entry.seat).submitted entry.statement)
      state.entries
  pub queries : All (λ accepted. Contains (seat_at state accepted.seat).submitted accepted.number)
      state.accepted

-- all of it, in a core whose settings are within their limits, and whose deletes name
-- their positions ascending
pub record IsSound (state : State) : Type 0 where
  pub settings : AreWithin state.settings
  pub filters : AreSoundFilters state
  pub batches : AreSoundBatches state
  pub hands : AreSoundHands state
  pub queries : AreSoundQueries state
  pub slots : AreSoundSlots state
  pub store : IsSoundStore state
  pub ends : All EndsAscending (changes_of state.entries)
  pub quiet : IsQuietBefore state
  pub numbers : AreSoundNumbers state
  pub scan : IsSoundScan state
  pub order : IsSoundOrder state.filters
  pub seats : AreSoundSeats state

-- a core before its first event
abbrev pub empty_core : RunSettings → State
empty_core settings = record {
  settings = settings;
  entries = [];
  seats = replicate settings.seats empty_seat;
  accepted = [];
  lives = record { queries = []; slots = replicate settings.slots Free; filters = 0 };
  filters = record { versions = []; tallies = []; order = [] };
  scan = record { position = 0; flights = []; free = frames_of settings; cut = 0 };
  numbers = record { statement = 0; batch = 0; version = 0 };
}
