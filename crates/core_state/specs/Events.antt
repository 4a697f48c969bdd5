-- When an event may come, and what it changes.
use Rattle.std.specs.Prelude.{◌≡◌, ◌≢◌, ℕ, ◌<◌, ◌⊎◌, List, [], length, All, AllPairs, Any, Some, None, IsSome, IsSomeAnd, IfSome, IsTrue, false}
use Rattle.std.specs.Option.{option_map_or}
use Rattle.pipeline_manager.specs.Conditions.{CanAbandon, CanBuild, CanClear, CanEnd, CanFree, CanRun, IsRunning}
use Rattle.pipeline_manager.specs.Lives.{life_of, oldest_waiting, slot_at}
use Rattle.pipeline_manager.specs.declared.life.SlotState.TheVariants.{Free}
use Rattle.core_state.specs.declared.event.Event.{Event}
use Rattle.core_state.specs.declared.event.Event.TheVariants.{Submit, Reserve, Build, Start, Cut, Take, Carry, Give, Distribute, Finish, Clear, Release, Reorder, Abandon}
use Rattle.core_state.specs.Admitting.{after_build, after_build_wants, after_clear, after_finish, after_release, after_reserving, after_start}
use Rattle.core_state.specs.Cutting.{after_carry, after_cutting, after_distribute, after_give, after_reorder, after_take, gets_rows}
use Rattle.core_state.specs.Found.{flight_at, has_passed_all, held_by, is_empty, is_on_roster, next_filter}
use Rattle.core_state.specs.State.{Filters, Flight, State}
use Rattle.core_state.specs.Submitting.{after_abandoning, after_submitting}
use Rattle.core_state.specs.Tables.{tables_of}

-- the oldest query that waits has this number, and the slot is free
pub record MayReserve (query slot : ℕ) (state : State) : Type 0 where
  pub oldest : oldest_waiting state.lives ≡ Some query
  pub there : slot < length state.lives.slots
  pub is_free : slot_at state.lives slot ≡ Free

-- some query runs, and a frame is free
pub record MayCut (state : State) : Type 0 where
  pub running : Any (λ entry. IsRunning entry.life) state.lives.queries
  pub frame : 0 < state.scan.free

-- a batch is idle, has a bit left, and did not pass every filter
pub record IsWanting (filters : Filters) (flight : Flight) : Type 0 where
  pub idle : flight.hand ≡ None
  pub bits : is_empty flight ≡ false
  pub filter : IsSome (next_filter filters flight)

-- the worker's hand is empty, and the batch wants a filter
pub record MayTake (worker batch : ℕ) (state : State) : Type 0 where
  pub seat : worker < length state.seats
  pub empty : held_by state.scan.flights worker ≡ None
  pub there : IsSome (flight_at state.scan.flights batch)
  pub wanting : IfSome (flight_at state.scan.flights batch) (IsWanting state.filters)

-- the worker's hand is empty, and the batch is idle
pub record MayCarry (worker batch : ℕ) (state : State) : Type 0 where
  pub seat : worker < length state.seats
  pub empty : held_by state.scan.flights worker ≡ None
  pub there : IsSome (flight_at state.scan.flights batch)
  pub idle : IfSome (flight_at state.scan.flights batch) (λ flight. flight.hand ≡ None)

-- a batch is idle, and has passed every filter or has no bit left
pub record IsThrough (filters : Filters) (flight : Flight) : Type 0 where
  pub idle : flight.hand ≡ None
  pub through : IsTrue (has_passed_all filters flight) ⊎ IsTrue (is_empty flight)

-- the batch is there, and through
pub record MayDistribute (batch : ℕ) (state : State) : Type 0 where
  pub there : IsSome (flight_at state.scan.flights batch)
  pub through : IfSome (flight_at state.scan.flights batch) (IsThrough state.filters)

-- a query gets rows of a batch: it is on its roster, and Running or Ending
pub record IsFed (batch query : ℕ) (state : State) : Type 0 where
  pub on : IsSomeAnd (flight_at state.scan.flights batch) (λ flight.
      Any (λ entry. entry.number ≡ query) flight.roster)
  pub gets : IsTrue (option_map_or gets_rows (life_of state.lives query) false)

-- queries that may find no memory for the rows of a batch: each once, and each gets rows of it
pub record AreFed (batch : ℕ) (queries : List ℕ) (state : State) : Type 0 where
  pub apart : AllPairs (λ query other. query ≢ other) queries
  pub each : All (λ query. IsFed batch query state) queries

-- the slot is held by a query that is to be answered or has no answer, and no batch in
-- flight has it on its roster
pub record MayFinish (slot : ℕ) (state : State) : Type 0 where
  pub over : CanEnd slot state.lives
  pub landed : All (λ flight. is_on_roster slot flight ≡ false) state.scan.flights

-- the event may come
abbrev pub IsEnabled : State → Event → Type 0
IsEnabled state (Submit seat statement) = seat < length state.seats
IsEnabled state (Reserve query slot) = MayReserve query slot state
IsEnabled state (Build query dimension) = CanBuild query dimension state.lives
IsEnabled state (Start query) = CanRun query state.lives
IsEnabled state Cut = MayCut state
IsEnabled state (Take worker batch) = MayTake worker batch state
IsEnabled state (Carry worker batch) = MayCarry worker batch state
IsEnabled state (Give worker) = IsSome (held_by state.scan.flights worker)
IsEnabled state (Distribute batch) = MayDistribute batch state
IsEnabled state (Finish slot) = MayFinish slot state
IsEnabled state (Clear slot dimension) = CanClear slot dimension state.lives
IsEnabled state (Release slot) = CanFree slot state.lives
IsEnabled state Reorder = IsSome (tables_of state).schema.fact
IsEnabled state (Abandon query) = CanAbandon query state.lives

-- the core after an event for which there was memory
unfoldable pub after_event : Event → State → State
after_event (Submit seat statement) state = after_submitting seat statement state
after_event (Reserve query slot) state = after_reserving slot state
after_event (Build query dimension) state = after_build query dimension state
after_event (Start query) state = after_start query state
after_event Cut state = after_cutting state
after_event (Take worker batch) state = after_take worker batch state
after_event (Carry worker batch) state = after_carry worker batch state
after_event (Give worker) state = after_give worker state
after_event (Distribute batch) state = after_distribute batch [] state
after_event (Finish slot) state = after_finish slot state
after_event (Clear slot dimension) state = after_clear slot dimension state
after_event (Release slot) state = after_release slot state
after_event Reorder state = after_reorder state
after_event (Abandon query) state = after_abandoning query state

-- the core after an event for which memory was wanted: a statement and a clearing change
-- nothing, a query that finds no memory as its filter is built, or its rows are folded, is
-- spoiled; the other events want none
unfoldable pub after_want : Event → (spoiled : List ℕ) → State → State
after_want (Build query dimension) spoiled state = after_build_wants query state
after_want (Distribute batch) spoiled state = after_distribute batch spoiled state
after_want other spoiled state = state

-- an event that leaves the history and the seats: no statement is submitted, and no query abandoned
abbrev pub LeavesSeats : Event → Type 0
LeavesSeats (Submit seat statement) = ⊥
LeavesSeats (Abandon query) = ⊥
LeavesSeats other = Unit {0}
