-- Which events the driver of a core takes, and what it leaves.
use Rattle.std.specs.Prelude.{◌≡◌, ◌⊎◌, ℕ, ◌<◌, List, [], ◌∷◌, All, Any, false, IsSome, IsSomeAnd, IsTrue, Some}
use Rattle.pipeline_manager.specs.Conditions.{IsRunning, is_open}
use Rattle.pipeline_manager.specs.Lives.{Lives, free_slot, life_of, oldest_waiting}
use Rattle.pipeline_manager.specs.declared.life.Life.{Life}
use Rattle.pipeline_manager.specs.declared.life.Life.TheVariants.{Waiting, Building, Running, Answered, Spoiled}
use Rattle.pipeline_manager.specs.declared.life.SlotState.{SlotState}
use Rattle.pipeline_manager.specs.declared.life.SlotState.TheVariants.{Free, Held, Clearing}
use Rattle.core_state.specs.Events.{IsEnabled}
use Rattle.core_state.specs.Numbered.{last_number}
use Rattle.core_state.specs.State.{State}
use Rattle.core_state.specs.Tables.{tables_of}
use Rattle.core_parts.specs.Filtered.{order_by}
use Rattle.core_state.specs.declared.event.Event.{Event}
use Rattle.core_state.specs.declared.event.Event.TheVariants.{Submit, Reserve, Build, Start, Cut, Carry, Clear, Reorder, Abandon}
use Rattle.event_core.specs.Chosen.{AreIdle, IsOfKind, NoneMayCome}
use Rattle.event_core.specs.CoreParts.{CoreParts, beside_of}
use Rattle.event_core.specs.Seen.{state_of}
use Rattle.event_core.specs.Took.{IsLed, MayWantMemory}
use Rattle.event_core.specs.declared.choosing.EventKind.{EventKind}
use Rattle.event_core.specs.declared.choosing.EventKind.TheVariants as kind

-- an event of one of these kinds
abbrev pub IsOfSome : List EventKind → Event → Type 0
IsOfSome kinds event = Any (λ kind. IsOfKind kind event) kinds

-- no event of any of these kinds may come
abbrev pub NoneOfMayCome : List EventKind → State → Type 0
NoneOfMayCome kinds state = All (λ kind. NoneMayCome kind state) kinds

-- no event of this kind allocates: it submits no statement, and clears no filter of a slot
abbrev pub NeverWants : EventKind → Type 0
NeverWants kind.Submit = ⊥
NeverWants kind.Clear = ⊥
NeverWants other = Unit {0}

-- an event of one of these kinds may come, and may find no memory
pub record MayWantOne (kinds : List EventKind) (state : State) : Type 0 where
  pub event : Event
  pub is_one : IsOfSome kinds event
  pub may : IsEnabled state event
  pub wants : MayWantMemory event

-- a filter may be cleared of a slot
abbrev pub MayClear : State → Type 0
MayClear state = (slot : ℕ) × (dimension : ℕ) × IsEnabled state (Clear slot dimension)

-- where no batch was in a hand none is, and what is beside the state stays
pub record StaysIdle (old new : CoreParts) : Type 0 where
  pub idle : AreIdle (state_of old) → AreIdle (state_of new)
  pub beside : beside_of new ≡ beside_of old

-- an event by which no query begins to run, none is submitted, none is abandoned, and
-- no worker carries a batch
abbrev pub IsOfRound : Event → Type 0
IsOfRound (Submit seat statement) = ⊥
IsOfRound (Reserve query slot) = ⊥
IsOfRound (Build query dimension) = ⊥
IsOfRound (Start query) = ⊥
IsOfRound (Carry worker batch) = ⊥
IsOfRound (Abandon query) = ⊥
IsOfRound other = Unit {0}

-- an event by which a query is admitted: it gets a slot, its filters are built, or it begins to run
abbrev pub IsOfAdmission : Event → Type 0
IsOfAdmission (Reserve query slot) = Unit {0}
IsOfAdmission (Build query dimension) = Unit {0}
IsOfAdmission (Start query) = Unit {0}
IsOfAdmission other = ⊥

-- an event that the driver may take: no statement is submitted, no query
-- abandoned, and no batch carried
abbrev pub IsDriven : Event → Type 0
IsDriven event = IsOfAdmission event ⊎ IsOfRound event

-- the event that cuts a batch
abbrev pub IsCut : Event → Type 0
IsCut event = event ≡ Cut

-- the event that orders the filters
abbrev pub IsReorder : Event → Type 0
IsReorder event = event ≡ Reorder

-- an event of a round other than a cut
abbrev pub IsOfLanding : Event → Type 0
IsOfLanding (Submit seat statement) = ⊥
IsOfLanding (Reserve query slot) = ⊥
IsOfLanding (Build query dimension) = ⊥
IsOfLanding (Start query) = ⊥
IsOfLanding Cut = ⊥
IsOfLanding (Carry worker batch) = ⊥
IsOfLanding (Abandon query) = ⊥
IsOfLanding other = Unit {0}

-- a slot in this state is free, or a query holds it that runs
abbrev pub IsFreeOrRuns : Lives → SlotState → Type 0
IsFreeOrRuns lives Free = Unit {0}
IsFreeOrRuns lives (Held query built) = IsSomeAnd (life_of lives query) IsRunning
IsFreeOrRuns lives (Clearing left) = ⊥

-- a query with this life is built for, or runs
abbrev pub IsUnderWay : Life → Type 0
IsUnderWay Building = Unit {0}
IsUnderWay (Running start left) = Unit {0}
IsUnderWay other = ⊥

-- a slot in this state is free, or a query holds it that is built for or runs
abbrev pub IsFreeOrUnderWay : Lives → SlotState → Type 0
IsFreeOrUnderWay lives Free = Unit {0}
IsFreeOrUnderWay lives (Held query built) = IsSomeAnd (life_of lives query) IsUnderWay
IsFreeOrUnderWay lives (Clearing left) = ⊥

-- no batch is in flight, no slot is being cleared, and every query that holds a
-- slot is built for or runs
pub record IsLanded (state : State) : Type 0 where
  pub landed : state.scan.flights ≡ []
  pub slots : All (IsFreeOrUnderWay state.lives) state.lives.slots

-- no batch is in flight, no slot is being cleared, and every query that holds a slot runs
pub record IsQuiet (state : State) : Type 0 where
  pub landed : state.scan.flights ≡ []
  pub slots : All (IsFreeOrRuns state.lives) state.lives.slots

-- no batch is in flight, no query is waiting, building, running or ending, and every slot is free
pub record IsFinished (state : State) : Type 0 where
  pub landed : state.scan.flights ≡ []
  pub none_open : All (λ entry. is_open entry.life ≡ false) state.lives.queries
  pub free : All (λ slot. slot ≡ Free) state.lives.slots

-- the query that waited the longest, where a slot was free, does not wait any more
abbrev pub AdmitsOldest : (old new : State) → Type 0
AdmitsOldest old new =
    (query : ℕ) → oldest_waiting old.lives ≡ Some query → IsSome (free_slot old.lives) →
    ¬ (life_of new.lives query ≡ Some Waiting)

-- a query may be admitted, or a batch cut
abbrev pub MayGoOn : State → Type 0
MayGoOn state =
    (event : Event)
    × (IsOfSome (kind.Reserve ∷ kind.Build ∷ kind.Start ∷ kind.Cut ∷ []) event
    × IsEnabled state event)

-- a count is greater than it was, or at its greatest value
abbrev pub Rises : (old new : ℕ) → Type 0
Rises old new = (old < new) ⊎ (new ≡ last_number)

-- every query that might still be answered is answered, or found no memory
abbrev pub AnswersAll : (old new : State) → Type 0
AnswersAll old new = All (λ entry. IsTrue (is_open entry.life) →
    (life_of new.lives entry.query ≡ Some Answered)
    ⊎ (life_of new.lives entry.query ≡ Some Spoiled))
    old.lives.queries

-- queries were admitted, as far as they can be
pub record Admits (old new : State) : Type 0 where
  pub led : IsLed IsOfAdmission old new
  pub reserve : NoneMayCome kind.Reserve new
  pub build : NoneMayCome kind.Build new
  pub start : NoneMayCome kind.Start new

-- batches were cut, as many as could be
pub record CutsAll (old new : State) : Type 0 where
  pub led : IsLed IsCut old new
  pub none : NoneMayCome kind.Cut new

-- the filters were ordered by their drop rates, where there are any
pub record OrdersFilters (old new : State) : Type 0 where
  pub led : IsLed IsReorder old new
  pub order : IsSome (tables_of new).schema.fact → new.filters.order ≡ order_by new.filters

-- a round: batches are cut, as many as can be, what is in flight lands and is so at the end, and
-- the filters are ordered
pub record IsRound (old new : State) : Type 0 where
  pub cut : State
  pub landed : State
  pub cuts : CutsAll old cut
  pub lands : IsLed IsOfLanding cut landed
  pub orders : OrdersFilters landed new
  pub ends : IsLanded new

-- a whole turn: queries are admitted, as far as they can be, a round follows, and then every query
-- that holds a slot runs
pub record IsWholeTurn (old new : State) : Type 0 where
  pub mid : State
  pub admits : Admits old mid
  pub round : IsRound mid new
  pub settled : IsQuiet new

-- a turn of the driver's events: queries are admitted, as far as they can be, and a round follows,
-- which ends where memory is wanted
pub record IsTurn (old new : State) : Type 0 where
  pub mid : State
  pub admits : Admits old mid
  pub round : IsLed IsOfRound mid new
  pub driven : IsLed IsDriven old new

-- whole turns, one after the other, through these states
abbrev pub AreTurns : List State → (old new : State) → Type 0
AreTurns [] old new = new ≡ old
AreTurns (next ∷ rest) old new = IsWholeTurn old next × AreTurns rest next new

-- what was in flight landed, and whole turns followed
pub record LandsAndTurns (old new : State) : Type 0 where
  pub landed : State
  pub turns : List State
  pub lands : IsLed IsOfLanding old landed
  pub each : AreTurns turns landed new

-- turn after turn all came to its end, and every query that might still be answered is answered, or
-- found no memory
pub record FinishesAll (old new : State) : Type 0 where
  pub turns : LandsAndTurns old new
  pub finished : IsFinished new
  pub answers : AnswersAll old new
