-- Events that a core took.
use Rattle.event_core.proofs.Words.{◌++◌, ◌+◌, ◌∙◌, ◌∷◌, ◌≡◌, ◌⊎◌, [], after_build, after_build_wants, after_distribute, All, ap, AreFed, arith, Build, CoreParts, Distribute, drop, Event, get_or_from_slice_get, IfSome, inl, inr, IsEnabled, IsSound, lent_to, List, refl, slice_get, slice_get_within, Some, State, subst, suc, sym, take, TookAll, zero, ℕ}
use Rattle.core_state.specs.Events.{after_event, after_want}
use Rattle.std.proofs.Common.{Err, Result}
use Rattle.std.specs.Prelude.{◌↔◌, IsErrOf}
use Rattle.event_core.specs.Lent.{IsAtHome}
use Rattle.event_core.specs.CoreParts.{Beside, beside_of}
use Rattle.event_core.specs.Took.{IsAfter, IsRefused, MayWantMemory, Took}
use Rattle.event_core.specs.declared.stepping.StepFault.{StepFault}
use Rattle.event_core.specs.declared.stepping.StepFault.TheVariants.{NotEnabled, Memory}

-- an event that was done
pub took-done : (event done : Event) (old new : State) → IsEnabled old event → event ≡ done → new ≡ after_event done old → Took event old new
took-done event done old new enabled same is = record { enabled = enabled; after = subst (λ e. IsAfter e old new) (sym same) (inl is) }

-- a filter that was built, or for which the query found no memory
pub took-build : (event : Event) (query dimension : ℕ) (old new : State) → IsEnabled old event → event ≡ Build query dimension
    → (new ≡ after_build query dimension old) ⊎ (new ≡ after_build_wants query old) → Took event old new
unfolding after_event after_want
took-build event query dimension old new enabled same (inl is) =
    record { enabled = enabled; after = subst (λ e. IsAfter e old new) (sym same) (inl is) }
took-build event query dimension old new enabled same (inr is) =
    record { enabled = enabled; after = subst (λ e. IsAfter e old new) (sym same) (inr is) }

-- a batch that was distributed, for which queries may have found no memory
pub took-distribute : (event : Event) (batch : ℕ) (old new : State) → IsEnabled old event → event ≡ Distribute batch
    → (spoiled : List ℕ) × AreFed batch spoiled old × (new ≡ after_distribute batch spoiled old) → Took event old new
unfolding after_want
took-distribute event batch old new enabled same is =
    record { enabled = enabled; after = subst (λ e. IsAfter e old new) (sym same) (inr is) }

-- an event more
took-more : (events : List Event) (event : Event) (old mid new : State) → TookAll events old mid → Took event mid new
    → TookAll (events ++ event ∷ []) old new
took-more [] event old mid new all is = (new, subst (λ state. Took event state new) all is, refl)
took-more (first ∷ events) event old mid new all is = (all.0, all.1, took-more events event all.0 mid new all.2 is)

-- the first of the events were taken, and these are left
pub record AreTaken (at : ℕ) (events left : List Event) (old now : State) : Type 0 where
  pub taken : TookAll (take at events) old now
  pub rest : left ≡ drop at events
  pub sound : IsSound now

-- an event that is left comes next
pub record ComesNext (at : ℕ) (events rest : List Event) (event : Event) : Type 0 where
  pub there : slice_get events at ≡ Some event
  pub front : take (suc at) events ≡ take at events ++ event ∷ []
  pub back : drop (suc at) events ≡ rest

comes-next : (at : ℕ) (events rest : List Event) (event : Event) → event ∷ rest ≡ drop at events → ComesNext at events rest event
comes-next zero [] rest event is = absurd (let both : event ∷ rest ≡ [] = is in cc)
comes-next (suc at) [] rest event is = absurd (let both : event ∷ rest ≡ [] = is in cc)
comes-next zero (first ∷ events) rest event is =
    let same : event ≡ first = cc in
    let left : rest ≡ events = cc in
    record { there = ap Some (sym same); front = ap (λ e. e ∷ []) (sym same); back = sym left }
comes-next (suc at) (first ∷ events) rest event is =
    let next = comes-next at events rest event is in
    record { there = next.there; front = ap (λ list. first ∷ list) next.front; back = next.back }

-- an event that is left is taken
pub taken-next : (at : ℕ) (events left rest : List Event) (event : Event) (old now next : State) → AreTaken at events left old now
    → left ≡ event ∷ rest → Took event now next → IsSound next → AreTaken (at + 1) events rest old next
taken-next at events left rest event old now next taken is took sound =
    subst (λ n. AreTaken n events rest old next) (let e : suc at ≡ at + 1 = omega arith in e) (record {
      taken = subst (λ list. TookAll list old next) (sym comes.front) (took-more (take at events) event old now next taken.taken took);
      rest = sym comes.back;
      sound = sound;
    })
  where
    comes : ComesNext at events rest event
    comes = comes-next at events rest event (sym is ∙ taken.rest)

-- why the event that comes next was not taken
pub refused-next : {T : Type 0} (at : ℕ) (events left rest : List Event) (event : Event) (now next : State) (cause : StepFault)
    (result : Result T StepFault) → left ≡ drop at events → left ≡ event ∷ rest → result ≡ Err cause → next ≡ now
    → IsErrOf result NotEnabled ↔ (IsEnabled now event → ⊥) → (IsErrOf result Memory → IsEnabled now event × MayWantMemory event)
    → IfSome (slice_get events at) (IsRefused cause next)
refused-next at events left rest event now next cause result is steps failed same disabled memory =
    subst (λ o. IfSome o (IsRefused cause next)) (sym (comes-next at events rest event (sym steps ∙ is)).there)
    (subst (λ state. IsRefused cause state event) (sym same) (by_cause cause failed))
  where
    by_cause : (cause : StepFault) → result ≡ Err cause → IsRefused cause now event
    by_cause NotEnabled failed = disabled.0 failed
    by_cause Memory failed = memory failed

-- the event that comes next is at home, where all are
pub home-next : (at : ℕ) (events left rest : List Event) (event : Event) (old now : CoreParts) → left ≡ drop at events → left ≡ event ∷ rest
    → beside_of now ≡ beside_of old → All (λ one. IsAtHome one (lent_to old.flights)) events → IsAtHome event (lent_to now.flights)
home-next at events left rest event old now is steps same all =
    subst (IsAtHome event) (sym (ap (λ (beside : Beside). beside.lent) same))
    (subst (λ one. IsAtHome one (lent_to old.flights)) (get_or_from_slice_get events at event event there)
    (all at event (slice_get_within events at event there)))
  where
    there : slice_get events at ≡ Some event
    there = (comes-next at events rest event (sym steps ∙ is)).there
