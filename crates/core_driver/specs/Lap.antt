-- How far the scan of a core goes until no query runs.
use Rattle.std.specs.Prelude.{◌≡◌, ◌⊎◌, ℕ, ◌+◌, ◌-◌, ◌*◌, ◌<◌, ◌≤◌, Bool, true, false, not, List, [], ◌∷◌, All, Any, count_by, length, min}
use Rattle.pipeline_manager.specs.Conditions.{IsRunning}
use Rattle.pipeline_manager.specs.Lives.{is_free, is_waiting}
use Rattle.pipeline_manager.specs.declared.life.Life.{Life}
use Rattle.pipeline_manager.specs.declared.life.Life.TheVariants.{Waiting, Building, Running}
use Rattle.core_state.specs.Cutting.{end_in, first_in}
use Rattle.core_state.specs.State.{State}
use Rattle.core_state.specs.Tables.{versions_in}
use Rattle.core_state.specs.declared.event.Event.{Event}
use Rattle.core_state.specs.declared.event.Event.TheVariants.{Cut}
use Rattle.event_core.specs.Took.{Took}
use Rattle.core_driver.specs.Driven.{IsDriven}

-- whether a query waits, is built for or runs
abbrev pub is_unfinished : Life → Bool
is_unfinished Waiting = true
is_unfinished Building = true
is_unfinished (Running start left) = true
is_unfinished other = false

-- how many queries wait, are built for or run
abbrev pub unfinished_in : State → ℕ
unfinished_in state = count_by (λ entry. is_unfinished entry.life) state.lives.queries

-- some query runs
abbrev pub SomeRuns : State → Type 0
SomeRuns state = Any (λ entry. IsRunning entry.life) state.lives.queries

-- whether a query waits or is built for
abbrev pub is_to_start : Life → Bool
is_to_start Waiting = true
is_to_start Building = true
is_to_start other = false

-- no query waits or is built for, so that none begins to run
abbrev pub NoneIsToStart : State → Type 0
NoneIsToStart state = All (λ entry. is_to_start entry.life ≡ false) state.lives.queries

-- there is a slot for each query that waits, beside those that are not free
abbrev pub HasSlotsForAll : State → Type 0
HasSlotsForAll state = count_by (λ entry. is_waiting entry.life) state.lives.queries
    + count_by (λ slot. not (is_free slot)) state.lives.slots ≤ length state.lives.slots

-- the lap of a query with this life began at this position, if it runs
abbrev pub BeganAt : (start : ℕ) → Life → Type 0
BeganAt start (Running other left) = other ≡ start
BeganAt start rest = Unit {0}

-- where the scan ends its way, once it came round: behind the last version, or where all
-- queries that run began, above 0
pub record IsEnd (end : ℕ) (state : State) : Type 0 where
  pub within : end ≤ versions_in state
  pub is : (end ≡ versions_in state)
      ⊎ ((0 < end) × All (λ entry. BeganAt end entry.life) state.lives.queries)

-- what is left of a query that runs lies between a position and an end
abbrev pub IsLeftBetween : (first end extent : ℕ) → Life → Type 0
IsLeftBetween first end extent (Running start left) = first + left ≤ min end extent
IsLeftBetween first end extent other = Unit {0}

-- the scan goes on to the last version, comes round, and goes on to an end:
-- so many positions at most
pub record IsToComeRound (end most : ℕ) (state : State) : Type 0 where
  pub is_end : IsEnd end state
  pub enough : (versions_in state - first_in state) + end ≤ most

-- the scan came round, and goes on to an end: so many positions at most
pub record CameRound (end most : ℕ) (state : State) : Type 0 where
  pub is_end : IsEnd end state
  pub left : All (λ entry. IsLeftBetween (first_in state) end entry.extent entry.life)
      state.lives.queries
  pub enough : end - first_in state ≤ most

-- at most so many positions are cut until no query runs, if none begins to
abbrev pub IsOnItsWay : (end most : ℕ) → State → Type 0
IsOnItsWay end most state =
    (SomeRuns state → ⊥) ⊎ (IsToComeRound end most state ⊎ CameRound end most state)

-- the scan is on its way, at whose end at most so many positions more were cut
pub record EndsWithin (left : ℕ) (state : State) : Type 0 where
  pub end : ℕ
  pub most : ℕ
  pub way : IsOnItsWay end most state
  pub enough : most ≤ left

-- how many positions are cut of this table at most: twice its versions, or once, if no query runs
abbrev pub IsBound : (bound : ℕ) → State → Type 0
IsBound bound state =
    (bound ≡ 2 * versions_in state) ⊎ ((bound ≡ versions_in state) × (SomeRuns state → ⊥))

-- the lap, in which at most so many positions are cut, is to begin: there is a slot
-- for each query that waits
pub record IsToBegin (left : ℕ) (state : State) : Type 0 where
  pub slots : HasSlotsForAll state
  pub is_bound : IsBound left state

-- the lap has begun: no query is to begin to run any more, and the scan is on its way
pub record HasLapBegun (left : ℕ) (state : State) : Type 0 where
  pub none : NoneIsToStart state
  pub within : EndsWithin left state

-- the lap in which at most so many positions more are cut is to begin, or has begun
abbrev pub HasLap : (left : ℕ) → State → Type 0
HasLap left state = IsToBegin left state ⊎ HasLapBegun left state

-- how many positions an event cuts
abbrev pub positions_of : Event → State → ℕ
positions_of Cut state = end_in state - first_in state
positions_of other state = 0

-- events were taken, one after the other, which cut so many positions together
abbrev pub TookCutting : List Event → (cut : ℕ) → (old new : State) → Type 0
TookCutting [] cut old new = (cut ≡ 0) × (new ≡ old)
TookCutting (event ∷ events) cut old new =
    (next : State) × (rest : ℕ) × (cut ≡ positions_of event old + rest) × Took event old next
    × TookCutting events rest next new

-- events of which each is one of these were taken, which cut so many positions together
pub record IsLedCutting (IsOne : Event → Type 0) (cut : ℕ) (old new : State) : Type 0 where
  pub events : List Event
  pub each : All IsOne events
  pub took : TookCutting events cut old new

-- the driver's events, and how many positions their cuts hold until every query is answered: none
-- where no query waits, is built for or runs; where these are no more than the slots, as many as
-- the table has versions at most, or twice as many where a query runs
pub record SharesLap (old new : State) : Type 0 where
  pub cut : ℕ
  pub led : IsLedCutting IsDriven cut old new
  pub none : unfinished_in old ≡ 0 → cut ≡ 0
  pub once : unfinished_in old ≤ length old.lives.slots → (SomeRuns old → ⊥) → cut ≤ versions_in old
  pub twice : unfinished_in old ≤ length old.lives.slots → cut ≤ 2 * versions_in old
