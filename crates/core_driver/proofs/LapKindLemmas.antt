-- Which events are those of a round other than a cut.
use Rattle.core_driver.proofs.Words.{◌∷◌, [], All, All-cons, All-nil, Clear, Distribute, Event, EventKind, Finish, Give, IsLed, IsOfLanding, IsOfSome, kind_of, List, Release, State, Take}
use Rattle.event_core.specs.Chosen.{IsPassing}
use Rattle.event_core.specs.declared.choosing.EventKind.TheVariants as kind
use Rattle.core_driver.proofs.KindLemmas.{kind-of-some}
use Rattle.core_driver.proofs.LedLemmas.{led-wider}

-- a kind of such events
abbrev pub IsLandingKind : EventKind → Type 0
IsLandingKind kind.Distribute = Unit {0}
IsLandingKind kind.Finish = Unit {0}
IsLandingKind kind.Clear = Unit {0}
IsLandingKind kind.Release = Unit {0}
IsLandingKind other = ⊥

-- an event of such a kind
landing-event : (event : Event) → IsLandingKind (kind_of event) → IsOfLanding event
landing-event (Distribute batch) is = tt
landing-event (Finish slot) is = tt
landing-event (Clear slot dimension) is = tt
landing-event (Release slot) is = tt
landing-event event is = absurd is

-- an event of some kinds, each of which is one of these
pub landing-of-some : (kinds : List EventKind) (event : Event) → All IsLandingKind kinds → IsOfSome kinds event → IsOfLanding event
landing-of-some kinds event all some = landing-event event (kind-of-some IsLandingKind kinds event all some)

-- an event by which the front takes a batch or gives it back
pub landing-passing : (event : Event) → IsPassing event → IsOfLanding event
landing-passing (Take worker batch) passing = tt
landing-passing (Give worker) passing = tt
landing-passing event passing = absurd passing

-- distributions
pub landing-distributes : All IsLandingKind (kind.Distribute ∷ [])
landing-distributes = All-cons IsLandingKind kind.Distribute [] tt (All-nil IsLandingKind)

-- slots that become free
pub landing-frees : All IsLandingKind (kind.Finish ∷ kind.Clear ∷ kind.Release ∷ [])
landing-frees =
    All-cons IsLandingKind kind.Finish (kind.Clear ∷ kind.Release ∷ []) tt
    (All-cons IsLandingKind kind.Clear (kind.Release ∷ []) tt (All-cons IsLandingKind kind.Release [] tt (All-nil IsLandingKind)))

-- the same of events one after the other
pub landing-led : (kinds : List EventKind) → All IsLandingKind kinds → (old new : State) → IsLed (IsOfSome kinds) old new → IsLed IsOfLanding old new
landing-led kinds all = led-wider (IsOfSome kinds) IsOfLanding (λ event some. landing-of-some kinds event all some)

-- batches pass filters
pub landing-passes : (old new : State) → IsLed IsPassing old new → IsLed IsOfLanding old new
landing-passes = led-wider IsPassing IsOfLanding landing-passing
