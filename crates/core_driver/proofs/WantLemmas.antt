-- Which events of the driver may find no memory: those that clear a filter of a slot, and no others.
use Rattle.core_driver.proofs.Words.{◌↔◌, ◌∷◌, ◌≡◌, [], All, All-cons, All-nil, Clear, Event, EventKind, IsEnabled, IsManaged, IsOfSome, kind_of, List, Ok, State, subst, Submit, sym}
use Rattle.std.proofs.Common.{Err, OnErr, OnOk, Result}
use Rattle.std.specs.Prelude.{IsErrOf}
use Rattle.event_core.specs.Took.{MayWantMemory}
use Rattle.event_core.specs.declared.choosing.EventKind.TheVariants as kind
use Rattle.event_core.specs.declared.stepping.StepFault.{StepFault}
use Rattle.event_core.specs.declared.stepping.StepFault.TheVariants.{NotEnabled, Memory}
use Rattle.core_driver.specs.Driven.{MayClear, MayWantOne, NeverWants}
use Rattle.core_driver.proofs.KindLemmas.{kind-of-some}

-- what holds at Ok holds, where what holds at Err never does
pub surely : {T E P Q : Type 0} (result : Result T E) → (Q → ⊥) → OnOk result P → OnErr result Q → P
surely (Ok value) never ok err = ok
surely (Err error) never ok err = absurd (never err)

-- an event that may come was not taken: it may find no memory
pub wants-one : {T : Type 0} (result : Result T StepFault) (fault : StepFault) (kinds : List EventKind) (event : Event) (old new : State)
    → result ≡ Err fault → new ≡ old → IsOfSome kinds event → IsEnabled old event → IsErrOf result NotEnabled ↔ (IsEnabled old event → ⊥)
    → (IsErrOf result Memory → IsEnabled old event × MayWantMemory event) → MayWantOne kinds new
wants-one result fault kinds event old new failed same one enabled disabled memory = subst (MayWantOne kinds) (sym same) before
  where
    by_fault : (fault : StepFault) → result ≡ Err fault → MayWantMemory event
    by_fault NotEnabled failed = absurd (disabled.0 failed enabled)
    by_fault Memory failed = (memory failed).1

    before : MayWantOne kinds old
    before = record { event = event; is_one = one; may = enabled; wants = by_fault fault failed }

-- none of these kinds wants memory
pub never-wants : (kinds : List EventKind) (state : State) → All NeverWants kinds → MayWantOne kinds state → ⊥
never-wants kinds state all one = by_event one.event one.wants (kind-of-some NeverWants kinds one.event all one.is_one)
  where
    by_event : (event : Event) → MayWantMemory event → NeverWants (kind_of event) → ⊥
    by_event (Submit seat statement) wants never = never
    by_event (Clear slot dimension) wants never = never
    by_event other wants never = wants

-- what may find no memory clears a filter of a slot
pub wants-clear : (kinds : List EventKind) (state : State) → All IsManaged kinds → MayWantOne kinds state → MayClear state
wants-clear kinds state all one = by_event one.event one.is_one one.may one.wants
  where
    by_event : (event : Event) → IsOfSome kinds event → IsEnabled state event → MayWantMemory event → MayClear state
    by_event (Submit seat statement) some may wants = absurd (kind-of-some IsManaged kinds (Submit seat statement) all some)
    by_event (Clear slot dimension) some may wants = (slot, dimension, may)
    by_event other some may wants = absurd wants

-- an admission wants none
pub admission-never : All NeverWants (kind.Reserve ∷ kind.Build ∷ kind.Start ∷ [])
admission-never =
    All-cons NeverWants kind.Reserve (kind.Build ∷ kind.Start ∷ []) tt
    (All-cons NeverWants kind.Build (kind.Start ∷ []) tt
    (All-cons NeverWants kind.Start [] tt (All-nil NeverWants)))

-- nor does a cut
pub cut-never : All NeverWants (kind.Cut ∷ [])
cut-never = All-cons NeverWants kind.Cut [] tt (All-nil NeverWants)

-- nor a distribution
pub distribute-never : All NeverWants (kind.Distribute ∷ [])
distribute-never = All-cons NeverWants kind.Distribute [] tt (All-nil NeverWants)
