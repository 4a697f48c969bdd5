-- What a whole turn leaves, by its two halves: an admission, and a round.
use Rattle.core_driver.proofs.Words.{◌<◌, ◌∷◌, ◌≡◌, ◌⊎◌, [], Admits, All, All-cons, All-nil, ap, arith, Build, Cut, Event, EventKind, Free, get_or, inl, inr, is_free, IsDriven, IsEnabled, IsLanded, IsLed, IsOfAdmission, IsOfRound, IsQuiet, IsSome, IsSound, kind_of, length, List, MayCut, MayGoOn, None, Option, position-Some, refl, Reserve, Rises, ScanState, SlotState, Some, Start, State, StepsKeep, subst, sym, TookSome, work_in, ℕ, ⊎_elim}
use Rattle.std.specs.Prelude.{false, position, true}
use Rattle.event_core.specs.declared.choosing.EventKind.TheVariants as kind
use Rattle.core_driver.specs.Driven.{AdmitsOldest}
use Rattle.core_driver.proofs.KindLemmas.{kind-of-some}
use Rattle.core_driver.proofs.LapBeginLemmas.{led-admitted}
use Rattle.core_driver.proofs.LapStartLemmas.{free-is}
use Rattle.core_driver.proofs.LedLemmas.{led-joined, led-sound, led-wider}
use Rattle.core_driver.proofs.NextLemmas.{next-admitted}
use Rattle.core_driver.proofs.PhaseLemmas.{round-driven, work-round}
use Rattle.core_driver.proofs.RiseLemmas.{cut-stays}
use Rattle.core_driver.proofs.SettleLemmas.{builds-none, settles}
use Rattle.core_driver.proofs.StayLemmas.{none-building-led, not-waiting-stays}

-- the driver takes events of an admission
pub admission-driven : (old new : State) → IsLed IsOfAdmission old new → IsLed IsDriven old new
admission-driven = led-wider IsOfAdmission IsDriven (λ event one. inl one)

-- and those of a round behind them
pub halves-driven : (old mid new : State) → IsLed IsOfAdmission old mid → IsLed IsOfRound mid new → IsLed IsDriven old new
halves-driven old mid new first second = led-joined IsDriven old mid new (admission-driven old mid first) (round-driven mid new second)

-- no query is built for once all are admitted, so a core that landed is settled
pub turn-settles : (old mid new : State) → Admits old mid → IsLed IsOfRound mid new → IsLanded new → IsQuiet new
turn-settles old mid new admits led landed = settles new landed (none-building-led mid new led (builds-none mid admits.build admits.start))

-- a slot that is free, by its place
free-place : (slots : List SlotState) (o : Option ℕ) → position is_free slots ≡ o → IsSome o
    → (slot : ℕ) × ((slot < length slots) × (get_or slots slot Free ≡ Free))
free-place slots None is some = absurd (let both : false ≡ true = some in cc)
free-place slots (Some slot) is some =
    let at = position-Some is_free slots slot Free is in
    (slot, (at.0, free-is (get_or slots slot Free) at.1))

-- the query that waited the longest is admitted, where a slot was free
pub turn-admits : StepsKeep → (old mid new : State) → IsSound old → Admits old mid → IsLed IsOfRound mid new → AdmitsOldest old new
turn-admits keep old mid new sound admits led = λ query oldest free.
    let place = free-place old.lives.slots (position is_free old.lives.slots) refl free in
    not-waiting-stays keep query mid new (round-driven mid new led) (led-sound keep IsOfAdmission old mid admits.led sound)
    (next-admitted keep query place.0 old mid sound oldest place.1.0 place.1.1 admits.led admits.reserve)

-- where a batch might be cut, the count of positions rose
pub turn-rises : StepsKeep → (old mid new : State) → IsSound old → Admits old mid → (MayCut mid → Rises mid.scan.cut new.scan.cut)
    → MayCut old → Rises old.scan.cut new.scan.cut
turn-rises keep old mid new sound admits rises may =
    subst (λ count. Rises count new.scan.cut) (ap (λ (scan : ScanState). scan.cut) (led-admitted old mid admits.led).scan)
    (rises (cut-stays keep old mid admits.led sound may))

-- a kind of events by which queries go on
abbrev IsGoingKind : EventKind → Type 0
IsGoingKind kind.Reserve = Unit {0}
IsGoingKind kind.Build = Unit {0}
IsGoingKind kind.Start = Unit {0}
IsGoingKind kind.Cut = Unit {0}
IsGoingKind other = ⊥

-- all that are asked for
going-kinds : All IsGoingKind (kind.Reserve ∷ kind.Build ∷ kind.Start ∷ kind.Cut ∷ [])
going-kinds =
    All-cons IsGoingKind kind.Reserve (kind.Build ∷ kind.Start ∷ kind.Cut ∷ []) tt
    (All-cons IsGoingKind kind.Build (kind.Start ∷ kind.Cut ∷ []) tt
    (All-cons IsGoingKind kind.Start (kind.Cut ∷ []) tt
    (All-cons IsGoingKind kind.Cut [] tt (All-nil IsGoingKind))))

-- an event of such a kind is of an admission, or a cut
going-event : (event : Event) → IsGoingKind (kind_of event) → IsOfAdmission event ⊎ (event ≡ Cut)
going-event (Reserve query slot) is = inl tt
going-event (Build query dimension) is = inl tt
going-event (Start query) is = inl tt
going-event Cut is = inr refl
going-event event is = absurd is

-- some event of an admission may come
abbrev pub MayAdmit : State → Type 0
MayAdmit state = (event : Event) × (IsOfAdmission event × IsEnabled state event)

-- where queries may go on, one may be admitted, or a batch cut
pub goes-by : (state : State) → MayGoOn state → MayAdmit state ⊎ MayCut state
goes-by state may = ⊎_elim
    (λ one. inl (may.0, (one, may.1.1)))
    (λ is. inr (subst (λ event. IsEnabled state event) is may.1.1))
    (going-event may.0 (kind-of-some IsGoingKind (kind.Reserve ∷ kind.Build ∷ kind.Start ∷ kind.Cut ∷ []) may.0 going-kinds may.1.0))

-- once all are admitted, none may be
none-admits : (old state : State) → Admits old state → (event : Event) → IsOfAdmission event → IsEnabled state event → ⊥
none-admits old state admits (Reserve query slot) one may = admits.reserve (Reserve query slot) refl may
none-admits old state admits (Build query dimension) one may = admits.build (Build query dimension) refl may
none-admits old state admits (Start query) one may = admits.start (Start query) refl may
none-admits old state admits event one may = absurd one

-- where queries might go on, a turn leaves less work
pub turn-falls : StepsKeep → (old mid new : State) → IsSound mid → Admits old mid → TookSome old mid → IsLed IsOfRound mid new
    → (MayCut mid → work_in new < work_in mid) → MayGoOn old → work_in new < work_in old
turn-falls keep old mid new sound admits some led falls may = ⊎_elim
    (λ same. ⊎_elim
    (λ one. absurd (none-admits old mid admits one.0 one.1.0 (subst (λ state. IsEnabled state one.0) (sym same) one.1.1)))
    (λ cuts. subst (λ state. work_in new < work_in state) same (falls (subst MayCut (sym same) cuts)))
    (goes-by old may))
    (λ less. let rest = work-round keep mid new led sound in omega arith)
    some
