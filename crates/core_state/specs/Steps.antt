-- What happens to a core, one step after the other.
use Rattle.std.specs.Prelude.{ℕ, ◌==◌, List, [], ◌∷◌, find, fold, Option, option_map, IsSome}
use Rattle.core_state.specs.declared.event.Event.{Event}
use Rattle.core_state.specs.declared.event.Event.TheVariants.{Distribute}
use Rattle.core_state.specs.Events.{AreFed, IsEnabled, after_event, after_want}
use Rattle.core_state.specs.State.{Awaited, State}
use Rattle.core_state.specs.Submitting.{after_taking, next_ready, seat_at}

-- a step: an event for which there was memory, one for which memory was wanted, where these queries
-- found none, or a reply that a seat takes
pub data Step : Type 0 where
  Done : Event → Step
  Wanting : Event → (spoiled : List ℕ) → Step
  Replying : (seat : ℕ) → Step

-- which queries may find no memory at an event: at Distribute those that the batch brings
-- rows; the others do not ask
abbrev pub MaySpoil : State → Event → (spoiled : List ℕ) → Type 0
MaySpoil state (Distribute batch) spoiled = AreFed batch spoiled state
MaySpoil state other spoiled = Unit {0}

-- the step may come
abbrev pub MayStep : State → Step → Type 0
MayStep state (Done event) = IsEnabled state event
MayStep state (Wanting event spoiled) = IsEnabled state event × MaySpoil state event spoiled
MayStep state (Replying seat) = IsSome (next_ready state seat)

-- the core after a step
abbrev pub after_step : Step → State → State
after_step (Done event) state = after_event event state
after_step (Wanting event spoiled) state = after_want event spoiled state
after_step (Replying seat) state = after_taking seat state

-- each step may come where it does
abbrev pub MayStepAll : State → List Step → Type 0
MayStepAll state [] = Unit {0}
MayStepAll state (step ∷ steps) = MayStep state step × MayStepAll (after_step step state) steps

-- the core after steps, one after the other
abbrev pub after_steps : List Step → State → State
after_steps steps state = fold (λ now step. after_step step now) state steps

-- what a seat waits for as the reply to a statement of this number
abbrev pub awaited_at : State → (seat statement : ℕ) → Option Awaited
awaited_at state seat statement =
    option_map (λ pending. pending.awaited)
    (find (λ pending. pending.statement == statement) (seat_at state seat).pending)
