-- What a core has become where it took an event.
use Rattle.std.specs.Prelude.{◌≡◌, ◌↔◌, ◌⊎◌, List, [], ◌∷◌, ℕ, All, IfSome, IsErrOf, IsSomeAnd, IsTrue, OnErr, OnOk, Option, None, Some, Result}
use Rattle.script_reader.specs.declared.statement.Statement.{Statement}
use Rattle.star_store.specs.Text.{may_change_tables, meaning_of}
use Rattle.core_state.specs.Cutting.{after_give}
use Rattle.core_state.specs.Events.{AreFed, IsEnabled, after_event, after_want}
use Rattle.core_state.specs.Found.{held_by}
use Rattle.core_state.specs.Sound.{IsSound}
use Rattle.core_state.specs.State.{State}
use Rattle.core_state.specs.Steps.{Step, Done, Wanting, Replying, MayStepAll, after_steps}
use Rattle.core_state.specs.declared.event.Event.{Event}
use Rattle.core_state.specs.declared.event.Event.TheVariants.{Submit, Build, Cut, Carry, Give, Distribute, Clear}
use Rattle.event_core.specs.Lent.{IsBlankWorkOf}
use Rattle.event_core.specs.CoreParts.{CoreParts, LeavesLoans, beside_of, loan_of}
use Rattle.event_core.specs.Seen.{state_of}
use Rattle.event_core.specs.declared.stepping.StepFault.{StepFault}
use Rattle.event_core.specs.declared.stepping.StepFault.TheVariants.{NotEnabled, Memory}
use Rattle.event_core.specs.declared.stepping.SubmitFault.{SubmitFault}
use Rattle.event_core.specs.declared.stepping.SubmitFault.TheVariants as submit
use Rattle.event_core.specs.declared.work.BlankWork.{BlankWork}
use Rattle.event_core.specs.declared.work.Folding.{Folding}

-- at an event queries found no memory: the query that is built, or some of those
-- that get rows of the batch
abbrev pub IsSpoilt : Event → (old new : State) → Type 0
IsSpoilt (Build query dimension) old new = new ≡ after_want (Build query dimension) [] old
IsSpoilt (Distribute batch) old new =
    (spoiled : List ℕ) × AreFed batch spoiled old
    × (new ≡ after_want (Distribute batch) spoiled old)
IsSpoilt other old new = ⊥

-- the event was done, or queries found no memory at it
abbrev pub IsAfter : Event → (old new : State) → Type 0
IsAfter event old new = (new ≡ after_event event old) ⊎ IsSpoilt event old new

-- the event was taken: it might come, and was done as far as there was memory
pub record Took (event : Event) (old new : State) : Type 0 where
  pub enabled : IsEnabled old event
  pub after : IsAfter event old new

-- events were taken, one after the other
abbrev pub TookAll : List Event → (old new : State) → Type 0
TookAll [] old new = new ≡ old
TookAll (event ∷ events) old new = (next : State) × Took event old next × TookAll events next new

-- events of which each is one of these were taken, one after the other
pub record IsLed (IsOne : Event → Type 0) (old new : State) : Type 0 where
  pub events : List Event
  pub each : All IsOne events
  pub took : TookAll events old new

-- the event of a step, if it is one
abbrev pub IsEventOf : Event → Step → Type 0
IsEventOf event (Done other) = other ≡ event
IsEventOf event (Wanting other spoiled) = other ≡ event
IsEventOf event (Replying seat) = ⊥

-- the steps are those of the events, in turn
abbrev pub AreOf : List Event → List Step → Type 0
AreOf [] [] = Unit {0}
AreOf [] (step ∷ steps) = ⊥
AreOf (event ∷ events) [] = ⊥
AreOf (event ∷ events) (step ∷ steps) = IsEventOf event step × AreOf events steps

-- steps of these events, each of which might come, lead from one state to the other
abbrev pub StepsFor : List Event → (old new : State) → Type 0
StepsFor events old new =
    (steps : List Step)
    × (MayStepAll old steps × (AreOf events steps × (new ≡ after_steps steps old)))

-- the event may find no memory: a statement is submitted, or a filter is cleared of a slot
abbrev pub MayWantMemory : Event → Type 0
MayWantMemory (Submit seat statement) = Unit {0}
MayWantMemory (Clear slot dimension) = Unit {0}
MayWantMemory other = ⊥

-- why an event was not taken: it may not come, or it may, and finds no memory
abbrev pub IsRefused : StepFault → State → Event → Type 0
IsRefused NotEnabled state event = IsEnabled state event → ⊥
IsRefused Memory state event = IsEnabled state event × MayWantMemory event

-- what a call leaves that takes an event, if it may come, and what it tells
pub record TakesEvent (event : Event) (old new : CoreParts)
    (result : Result (Unit {0}) StepFault) : Type 0 where
  pub disabled : IsErrOf result NotEnabled ↔ (IsEnabled (state_of old) event → ⊥)
  pub taken : OnOk result (Took event (state_of old) (state_of new))
  pub err : OnErr result (new ≡ old)
  pub memory : IsErrOf result Memory → IsEnabled (state_of old) event × MayWantMemory event
  pub beside : beside_of new ≡ beside_of old
  pub sound : IsSound (state_of new)

-- what a call leaves that takes the submission of a statement, as far as it does so, and what it
-- reports. Where groups or tables are out it may tell a statement that may change the tables to
-- wait until they are home
pub record Submits (seat : ℕ) (statement : Statement) (old new : CoreParts)
    (result : Result (Unit {0}) SubmitFault) : Type 0 where
  pub disabled : IsErrOf result submit.NotEnabled
      ↔ (IsEnabled (state_of old) (Submit seat statement) → ⊥)
  pub taken : OnOk result (Took (Submit seat statement) (state_of old) (state_of new))
  pub err : OnErr result (new ≡ old)
  pub busy : IsErrOf result submit.Busy →
      (¬ (All (λ lending. lending ≡ None) (beside_of old).out))
      × IsTrue (may_change_tables (meaning_of statement))
  pub beside : beside_of new ≡ beside_of old
  pub sound : IsSound (state_of new)

-- a batch was cut, and a worker carries it
pub record CutsAndCarries (worker : ℕ) (old new : State) : Type 0 where
  pub batch : ℕ
  pub between : State
  pub cut : Took Cut old between
  pub carried : Took (Carry worker batch) between new

-- a worker carries a batch as it was cut, and takes this with it
pub record CarriesBlank (worker : ℕ) (old new : CoreParts) (blank : BlankWork) : Type 0 where
  pub carries : CutsAndCarries worker (state_of old) (state_of new)
  pub work : IsSomeAnd (held_by (state_of new).scan.flights worker) (λ flight.
      IsSomeAnd flight.hand (IsBlankWorkOf blank (loan_of new worker) flight))

-- a call that lends to one seat, or takes back from it, leaves the marks as they were, each other
-- seat what it had, and the core sound
pub record TouchesOneSeat (seat : ℕ) (old new : CoreParts) : Type 0 where
  pub marks : new.marks ≡ old.marks
  pub others : LeavesLoans seat old new
  pub sound : IsSound (state_of new)

-- the batch of this number was distributed, if it was folded outside, and else nothing changed
abbrev pub Lands : Option Folding → (batch : ℕ) → (old new : State) → Type 0
Lands None batch old new = new ≡ old
Lands (Some folding) batch old new = Took (Distribute batch) old new

-- a worker gave back the batch in its hand, and if that batch was folded outside, it was
-- distributed, too
pub record CameHome (worker : ℕ) (folding : Option Folding) (old new : State) : Type 0 where
  pub between : State
  pub gave : Took (Give worker) old between
  pub after : between ≡ after_give worker old
  pub landed : IfSome (held_by old.scan.flights worker)
      (λ flight. Lands folding flight.rows.number between new)
