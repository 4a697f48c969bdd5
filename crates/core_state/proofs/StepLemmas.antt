-- Each step keeps a core sound, and so does each list of steps.
use Rattle.core_state.proofs.Words.{◌<◌, ◌∷◌, [], Abandon, after_abandoning, after_build, after_build_wants, after_carry, after_clear, after_cutting, after_distribute, after_finish, after_give, after_release, after_reorder, after_reserving, after_start, after_step, after_steps, after_submitting, after_take, after_taking, All-nil, ap, AreFed, arith, Build, CanAbandon, CanBuild, CanClear, CanFree, CanRun, CanSpoil, Carry, Clear, Cut, Distribute, Done, Event, false, Finish, Give, held_by, is_begun, IsEnabled, IsFed, IsSome, IsSound, length, List, MayCarry, MayCut, MayDistribute, MayFinish, MayReserve, MaySpoil, MayStep, MayStepAll, MayTake, next_ready, option_map_or, Release, Reorder, Replying, Reserve, Start, State, Statement, Step, Submit, Take, Wanting, ℕ}
use Rattle.core_state.specs.Events.{after_event, after_want}

-- what the laws say of the events
pub record EventsKeep : Type 0 where
  pub submit : (seat : ℕ) (statement : Statement) (state : State) → seat < length state.seats → IsSound state → IsSound (after_submitting seat statement state)
  pub reserve : (query slot : ℕ) (state : State) → MayReserve query slot state → IsSound state → IsSound (after_reserving slot state)
  pub build : (query dimension : ℕ) (state : State) → CanBuild query dimension state.lives → IsSound state → IsSound (after_build query dimension state)
  pub build_wants : (query : ℕ) (state : State) → CanSpoil query state.lives → IsSound state → IsSound (after_build_wants query state)
  pub start : (query : ℕ) (state : State) → CanRun query state.lives → IsSound state → IsSound (after_start query state)
  pub cut : (state : State) → MayCut state → IsSound state → IsSound (after_cutting state)
  pub take : (worker batch : ℕ) (state : State) → MayTake worker batch state → IsSound state → IsSound (after_take worker batch state)
  pub carry : (worker batch : ℕ) (state : State) → MayCarry worker batch state → IsSound state → IsSound (after_carry worker batch state)
  pub give : (worker : ℕ) (state : State) → IsSome (held_by state.scan.flights worker) → IsSound state → IsSound (after_give worker state)
  pub distribute : (batch : ℕ) (spoiled : List ℕ) (state : State) → MayDistribute batch state → AreFed batch spoiled state
      → IsSound state → IsSound (after_distribute batch spoiled state)
  pub finish : (slot : ℕ) (state : State) → MayFinish slot state → IsSound state → IsSound (after_finish slot state)
  pub clear : (slot dimension : ℕ) (state : State) → CanClear slot dimension state.lives → IsSound state → IsSound (after_clear slot dimension state)
  pub release : (slot : ℕ) (state : State) → CanFree slot state.lives → IsSound state → IsSound (after_release slot state)
  pub reorder : (state : State) → IsSound state → IsSound (after_reorder state)
  pub abandon : (query : ℕ) (state : State) → CanAbandon query state.lives → IsSound state → IsSound (after_abandoning query state)
  pub reply : (seat : ℕ) (state : State) → IsSome (next_ready state seat) → IsSound state → IsSound (after_taking seat state)

-- no query at all finds no memory
none-fed : (batch : ℕ) (state : State) → AreFed batch [] state
none-fed batch state = record {
  apart = λ i j d before low. absurd (omega arith);
  each = All-nil (λ query. IsFed batch query state);
}

sound-event : EventsKeep → (event : Event) (state : State) → IsEnabled state event → IsSound state → IsSound (after_event event state)
unfolding after_event
sound-event keep (Submit seat statement) state may sound = keep.submit seat statement state may sound
sound-event keep (Reserve query slot) state may sound = keep.reserve query slot state may sound
sound-event keep (Build query dimension) state may sound = keep.build query dimension state may sound
sound-event keep (Start query) state may sound = keep.start query state may sound
sound-event keep Cut state may sound = keep.cut state may sound
sound-event keep (Take worker batch) state may sound = keep.take worker batch state may sound
sound-event keep (Carry worker batch) state may sound = keep.carry worker batch state may sound
sound-event keep (Give worker) state may sound = keep.give worker state may sound
sound-event keep (Distribute batch) state may sound = keep.distribute batch [] state may (none-fed batch state) sound
sound-event keep (Finish slot) state may sound = keep.finish slot state may sound
sound-event keep (Clear slot dimension) state may sound = keep.clear slot dimension state may sound
sound-event keep (Release slot) state may sound = keep.release slot state may sound
sound-event keep Reorder state may sound = keep.reorder state sound
sound-event keep (Abandon query) state may sound = keep.abandon query state may sound

sound-want : EventsKeep → (event : Event) (spoiled : List ℕ) (state : State) → IsEnabled state event → MaySpoil state event spoiled
    → IsSound state → IsSound (after_want event spoiled state)
unfolding after_want
sound-want keep (Build query dimension) spoiled state may fed sound =
    keep.build_wants query state (ap (λ o. option_map_or is_begun o false) may.building) sound
sound-want keep (Distribute batch) spoiled state may fed sound = keep.distribute batch spoiled state may fed sound
sound-want keep other spoiled state may fed sound = sound

pub sound-step : EventsKeep → (step : Step) (state : State) → MayStep state step → IsSound state → IsSound (after_step step state)
sound-step keep (Done event) state may sound = sound-event keep event state may sound
sound-step keep (Wanting event spoiled) state may sound = sound-want keep event spoiled state may.0 may.1 sound
sound-step keep (Replying seat) state may sound = keep.reply seat state may sound

-- steps keep a core sound
abbrev pub StepsKeep : Type 0
StepsKeep = (step : Step) (state : State) → MayStep state step → IsSound state → IsSound (after_step step state)

pub sound-steps : StepsKeep → (steps : List Step) (state : State) → MayStepAll state steps → IsSound state → IsSound (after_steps steps state)
sound-steps keep [] state may sound = sound
sound-steps keep (step ∷ steps) state may sound = sound-steps keep steps (after_step step state) may.1 (keep step state may.0 sound)
