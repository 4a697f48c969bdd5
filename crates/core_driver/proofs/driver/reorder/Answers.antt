-- The one event was taken, or there are no filters to order, and nothing has changed.
use Rattle.core_driver.proofs.Words.{◌↔◌, ◌∷◌, ◌≡◌, [], All-cons, All-nil, ap, IsEnabled, IsReorder, Ok, refl, Reorder, State, state_of, subst, sym, Took, ⊎_elim}
use Rattle.std.proofs.Common.{Err, OnErr, OnOk, Result}
use Rattle.std.specs.Prelude.{IsErrOf, IsSome}
use Rattle.core_parts.specs.Filtered.{order_by}
use Rattle.core_state.specs.Tables.{tables_of}
use Rattle.core_state.specs.Events.{after_event}
use Rattle.event_core.specs.CoreParts.{CoreParts}
use Rattle.event_core.specs.Took.{MayWantMemory}
use Rattle.event_core.specs.declared.stepping.StepFault.{StepFault}
use Rattle.event_core.specs.declared.stepping.StepFault.TheVariants.{NotEnabled, Memory}
use Rattle.core_driver.specs.Driven.{OrdersFilters}
use Rattle.core_driver.proofs.IdleLemmas.{idle-reordered}
use Rattle.core_driver.proofs.LedLemmas.{led-none}
use Rattle.core_driver.proofs.driver.reorder.Goals as goal

-- the event was taken
ordered : (old new : State) → Took Reorder old new → OrdersFilters old new
unfolding after_event
ordered old new took = record {
  led = record {
    events = Reorder ∷ [];
    each = All-cons IsReorder Reorder [] refl (All-nil IsReorder);
    took = (new, took, refl);
  };
  order = ⊎_elim
      (λ done. subst (λ (state : State). IsSome (tables_of state).schema.fact → state.filters.order ≡ order_by state.filters) (sym done)
      (λ some. refl)) (λ never. absurd never) took.after;
}

once : {T : Type 0} (result : Result T StepFault) (old new : CoreParts) → OnOk result (Took Reorder (state_of old) (state_of new))
    → OnErr result (new ≡ old) → IsErrOf result NotEnabled ↔ (IsEnabled (state_of old) Reorder → ⊥)
    → (IsErrOf result Memory → IsEnabled (state_of old) Reorder × MayWantMemory Reorder) → OrdersFilters (state_of old) (state_of new)
once (Ok x) old new took same disabled memory = ordered (state_of old) (state_of new) took
once (Err NotEnabled) old new took same disabled memory = record {
  led = led-none IsReorder (state_of old) (state_of new) (ap state_of same);
  order = λ some. absurd (disabled.0 refl (subst (λ state. IsEnabled state Reorder) (ap state_of same) some));
}
once (Err Memory) old new took same disabled memory = absurd (memory refl).1

pub step-requires : goal.step-requires
step-requires c = record { home = tt }

pub returns-clause-orders : goal.returns-clause-orders
returns-clause-orders c =
    once c.step.result c.args.core.now c.step.new.self c.step.ensures.taken c.step.ensures.err c.step.ensures.disabled c.step.ensures.memory

pub returns-clause-stays : goal.returns-clause-stays
returns-clause-stays c = record {
  idle = idle-reordered (state_of c.args.core.now) (state_of c.step.new.self) (returns-clause-orders c).led;
  beside = c.step.ensures.beside;
}
