-- Whose row a step may move.
use Rattle.std.specs.Prelude.{◌≡◌, ℕ, List, [], ◌∷◌, Option, Some, None, option_map, IfSome}
use Rattle.core_state.specs.declared.event.Event.{Event}
use Rattle.core_state.specs.declared.event.Event.TheVariants.{Submit, Take, Carry, Give, Abandon}
use Rattle.core_state.specs.Found.{accepted_at}
use Rattle.core_state.specs.State.{State}
use Rattle.core_state.specs.Steps.{Done, Replying, Step, Wanting, after_step}

-- the seat whose row an event may move, if it may move one: who submits, who takes a batch, carries
-- one or gives one back, and whose query is abandoned
abbrev pub mover_of_event : State → Event → Option ℕ
mover_of_event state (Submit seat statement) = Some seat
mover_of_event state (Take worker batch) = Some worker
mover_of_event state (Carry worker batch) = Some worker
mover_of_event state (Give worker) = Some worker
mover_of_event state (Abandon query) =
    option_map (λ accepted. accepted.seat) (accepted_at state.accepted query)
mover_of_event state other = None

-- the same of a step
abbrev pub mover_of : State → Step → Option ℕ
mover_of state (Done event) = mover_of_event state event
mover_of state (Wanting event spoiled) = None
mover_of state (Replying seat) = Some seat

-- the step moves no row but that of the seat
abbrev pub IsOfSeat : (seat : ℕ) → State → Step → Type 0
IsOfSeat seat state step = IfSome (mover_of state step) (λ mover. mover ≡ seat)

-- the same of steps, one after the other
abbrev pub AreOfSeat : (seat : ℕ) → State → List Step → Type 0
AreOfSeat seat state [] = Unit {0}
AreOfSeat seat state (step ∷ steps) =
    IsOfSeat seat state step × AreOfSeat seat (after_step step state) steps
