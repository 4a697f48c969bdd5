-- Which events the kinds that are asked for make.
use Rattle.core_driver.proofs.Words.{◌↔◌, ◌∙◌, ◌∷◌, ◌≡◌, [], All, All-cons, All-nil, arith, Bool, Build, Clear, Cut, Distribute, Event, EventKind, false, Finish, Give, IfSome, is_some, IsEnabled, IsLed, IsManaged, IsOfAdmission, IsOfKind, IsOfSome, IsStill, IsTrue, kind_of, List, None, NoneOfMayCome, Option, refl, Release, Reserve, Some, Start, State, Submit, subst, suc, sym, true, zero, ℕ, ◌≢◌}
use Rattle.event_core.specs.declared.choosing.EventKind.TheVariants as kind
use Rattle.core_driver.proofs.LedLemmas.{led-wider}
use Rattle.event_core.specs.Lent.{IsAtHome}

-- a kind of events by which queries are admitted
abbrev pub IsAdmissionKind : EventKind → Type 0
IsAdmissionKind kind.Reserve = Unit {0}
IsAdmissionKind kind.Build = Unit {0}
IsAdmissionKind kind.Start = Unit {0}
IsAdmissionKind other = ⊥

-- a kind of events that move no batch
abbrev pub IsStillKind : EventKind → Type 0
IsStillKind kind.Reserve = Unit {0}
IsStillKind kind.Build = Unit {0}
IsStillKind kind.Start = Unit {0}
IsStillKind kind.Finish = Unit {0}
IsStillKind kind.Clear = Unit {0}
IsStillKind kind.Release = Unit {0}
IsStillKind other = ⊥

-- an event of such a kind is of an admission
admission-event : (event : Event) → IsAdmissionKind (kind_of event) → IsOfAdmission event
admission-event (Reserve query slot) is = tt
admission-event (Build query dimension) is = tt
admission-event (Start query) is = tt
admission-event other is = absurd is

-- or moves no batch
still-event : (event : Event) → IsStillKind (kind_of event) → IsStill event
still-event (Reserve query slot) is = tt
still-event (Build query dimension) is = tt
still-event (Start query) is = tt
still-event (Finish slot) is = tt
still-event (Clear slot dimension) is = tt
still-event (Release slot) is = tt
still-event other is = absurd is

-- an event of some kinds is of one of them, which is one of these
pub kind-of-some : (IsOne : EventKind → Type 0) (kinds : List EventKind) (event : Event) → All IsOne kinds → IsOfSome kinds event
    → IsOne (kind_of event)
kind-of-some IsOne kinds event all some =
    subst IsOne (sym some.4) (subst IsOne some.3 (all some.0 some.1 some.2))

-- no event of some kinds gives a batch back
pub some-gives-none : (kinds : List EventKind) (worker : ℕ) → All IsManaged kinds → IsOfSome kinds (Give worker) → ⊥
some-gives-none kinds worker all some = kind-of-some IsManaged kinds (Give worker) all some

-- an event of kinds of an admission
pub admission-of-some : (kinds : List EventKind) (event : Event) → All IsAdmissionKind kinds → IsOfSome kinds event → IsOfAdmission event
admission-of-some kinds event all some = admission-event event (kind-of-some IsAdmissionKind kinds event all some)

-- of kinds that move no batch
pub still-of-some : (kinds : List EventKind) (event : Event) → All IsStillKind kinds → IsOfSome kinds event → IsStill event
still-of-some kinds event all some = still-event event (kind-of-some IsStillKind kinds event all some)

-- the kinds of an admission
pub admission-kinds : All IsAdmissionKind (kind.Reserve ∷ kind.Build ∷ kind.Start ∷ [])
admission-kinds =
    All-cons IsAdmissionKind kind.Reserve (kind.Build ∷ kind.Start ∷ []) tt
    (All-cons IsAdmissionKind kind.Build (kind.Start ∷ []) tt
    (All-cons IsAdmissionKind kind.Start [] tt (All-nil IsAdmissionKind)))

-- and those that move no batch
pub still-kinds : All IsStillKind (kind.Finish ∷ kind.Clear ∷ kind.Release ∷ [])
still-kinds =
    All-cons IsStillKind kind.Finish (kind.Clear ∷ kind.Release ∷ []) tt
    (All-cons IsStillKind kind.Clear (kind.Release ∷ []) tt
    (All-cons IsStillKind kind.Release [] tt (All-nil IsStillKind)))

-- lists of events of these kinds are an admission
pub admission-led : (kinds : List EventKind) → All IsAdmissionKind kinds → (old new : State) → IsLed (IsOfSome kinds) old new
    → IsLed IsOfAdmission old new
admission-led kinds all = led-wider (IsOfSome kinds) IsOfAdmission (λ event some. admission-of-some kinds event all some)

-- an event of one kind is of some, if that is among them
pub some-of-first : (first : EventKind) (kinds : List EventKind) (event : Event) → IsOfKind first event → IsOfSome (first ∷ kinds) event
some-of-first first kinds event is = (zero, first, (omega arith), refl, is)

-- and where more kinds are asked for
pub some-of-more : (first : EventKind) (kinds : List EventKind) (event : Event) → IsOfSome kinds event → IsOfSome (first ∷ kinds) event
some-of-more first kinds event some = (suc some.0, some.1, (let low = some.2 in omega arith), some.3, some.4)

-- what is told of an event that is asked for, where one of these kinds may come
pub next-told : (kinds : List EventKind) (state : State) (next : Option Event) (told : Bool) → told ≡ is_some next → IfSome next (IsOfSome kinds)
    → IfSome next (IsEnabled state) → (next ≡ None → NoneOfMayCome kinds state)
    → IsTrue told ↔ ((event : Event) × (IsOfSome kinds event × IsEnabled state event))
next-told kinds state None told is one enabled none = (
  (λ tells. absurd (let both : false ≡ true = sym is ∙ tells in cc)),
  (λ may. absurd (none refl may.1.0.0 may.1.0.1 may.1.0.2 may.0
      (subst (λ kind. IsOfKind kind may.0) (sym may.1.0.3) may.1.0.4) may.1.1)),
)
next-told kinds state (Some event) told is one enabled none = ((λ tells. (event, (one, enabled))), (λ may. is))

-- an event of one of these kinds gives no batch back, and submits no statement, so that no batch has to be with the core
pub some-home : (kinds : List EventKind) (event : Event) (lent : List ℕ) → All IsManaged kinds → IsOfSome kinds event → IsAtHome event lent
some-home kinds (Give worker) lent all some = absurd (some-gives-none kinds worker all some)
some-home kinds (Submit seat statement) lent all some = absurd (kind-of-some IsManaged kinds (Submit seat statement) all some)
some-home kinds other lent all some = tt
