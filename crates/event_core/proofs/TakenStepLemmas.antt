-- Events that were taken are steps of the core.
use Rattle.std.specs.Prelude.{◌≡◌, ◌⊎◌, List, [], ◌∷◌, refl}
use Rattle.event_core.proofs.Words.{after_event, after_step, Build, Distribute, Done, Event, inl, inr, IsEnabled, MayStep, State, Step, subst, TookAll, Wanting}
use Rattle.event_core.specs.Took.{IsEventOf, IsSpoilt, StepsFor}

-- a step of this event that may come and gives this state
pub record StepFor (event : Event) (old new : State) : Type 0 where
  pub step : Step
  pub may : MayStep old step
  pub is_of : IsEventOf event step
  pub after : new ≡ after_step step old

spoilt-step : (event : Event) (old new : State) → IsEnabled old event → IsSpoilt event old new → StepFor event old new
spoilt-step (Build query dimension) old new enabled spoilt =
    record { step = Wanting (Build query dimension) []; may = (enabled, tt); is_of = refl; after = spoilt }
spoilt-step (Distribute batch) old new enabled spoilt =
    record { step = Wanting (Distribute batch) spoilt.0; may = (enabled, spoilt.1); is_of = refl; after = spoilt.2 }
spoilt-step other old new enabled spoilt = absurd spoilt

pub taken-step : (event : Event) (old new : State) → IsEnabled old event → (new ≡ after_event event old) ⊎ IsSpoilt event old new
    → StepFor event old new
taken-step event old new enabled (inl done) = record { step = Done event; may = enabled; is_of = refl; after = done }
taken-step event old new enabled (inr spoilt) = spoilt-step event old new enabled spoilt

-- events that were taken are steps that might come
pub taken-steps : (events : List Event) (old new : State) → TookAll events old new → StepsFor events old new
taken-steps [] old new same = ([], (tt, (tt, same)))
taken-steps (event ∷ events) old new took =
    let first = taken-step event old took.0 took.1.enabled took.1.after in
    let from : TookAll events (after_step first.step old) new =
    subst (λ (state : State). TookAll events state new) first.after took.2 in
    let rest = taken-steps events (after_step first.step old) new from in
    (first.step ∷ rest.0, ((first.may, rest.1.0), ((first.is_of, rest.1.1.0), rest.1.1.1)))
