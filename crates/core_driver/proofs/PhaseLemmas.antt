-- What the phases of a turn leave.
use Rattle.core_driver.proofs.Words.{◌<◌, ◌∷◌, ◌≡◌, ◌≤◌, [], All, All-head, All-tail, arith, Clear, Cut, CutsAll, Distribute, Event, EventKind, Finish, Give, inl, inr, IsCut, IsDriven, IsFreeOrUnderWay, IsLanded, IsLed, IsOfLanding, IsOfRound, IsOfSome, IsReorder, IsRound, IsSound, kind_of, List, MayCut, Option, refl, Release, Reorder, Rises, Some, State, StepsKeep, subst, sym, Take, Took, TookAll, TookSome, work_in, ⊎_elim}
use Rattle.event_core.specs.declared.choosing.EventKind.TheVariants as kind
use Rattle.core_driver.specs.Work.{CutsMore}
use Rattle.core_driver.proofs.LandLemmas.{landed-stays}
use Rattle.core_driver.proofs.LedLemmas.{led-holds, led-joined, led-keeps, led-sound, led-wider, took-sound}
use Rattle.core_driver.proofs.PassedLemmas.{reordered-lives, same-work, took-hands, work-reordered}
use Rattle.core_driver.proofs.RiseLemmas.{rises-cut, rises-stays}
use Rattle.core_driver.proofs.RoundLemmas.{only-kind}
use Rattle.core_driver.proofs.WorkLemmas.{work-taken}

-- a cut is of a round
pub round-cut : (event : Event) → IsCut event → IsOfRound event
round-cut event is = subst IsOfRound (sym is) tt

-- and so are the events of a landing
pub round-landing : (event : Event) → IsOfLanding event → IsOfRound event
round-landing Cut one = absurd one
round-landing event one = one

-- and the one that orders the filters
pub round-reorder : (event : Event) → IsReorder event → IsOfRound event
round-reorder event is = subst IsOfRound (sym is) tt

-- an event of a round leaves no more work
work-after : (event : Event) (old new : State) → IsOfRound event → IsSound old → Took event old new → work_in new ≤ work_in old
work-after Cut old new one sound took = let less = work-taken Cut old new sound tt took in omega arith
work-after (Take worker batch) old new one sound took =
    let passes = took-hands (Take worker batch) old new tt took in
    let same = same-work old new passes.lives passes.entries passes.position passes.flights in
    omega arith
work-after (Give worker) old new one sound took =
    let passes = took-hands (Give worker) old new tt took in
    let same = same-work old new passes.lives passes.entries passes.position passes.flights in
    omega arith
work-after (Distribute batch) old new one sound took =
    let less = work-taken (Distribute batch) old new sound tt took in omega arith
work-after (Finish slot) old new one sound took =
    let less = work-taken (Finish slot) old new sound tt took in omega arith
work-after (Clear slot dimension) old new one sound took =
    let less = work-taken (Clear slot dimension) old new sound tt took in omega arith
work-after (Release slot) old new one sound took =
    let less = work-taken (Release slot) old new sound tt took in omega arith
work-after Reorder old new one sound took = let same = work-reordered old new took in omega arith
work-after event old new one sound took = absurd one

-- nor does a round
pub work-round : StepsKeep → (old new : State) → IsLed IsOfRound old new → IsSound old → work_in new ≤ work_in old
work-round keep old new led sound = led-keeps keep IsOfRound (λ state. work_in state ≤ work_in old)
    (λ event before after one so_sound took so_far. let less = work-after event before after one so_sound took in omega arith)
    old new led sound (omega arith)

-- the kind of a cut
abbrev IsCutKind : EventKind → Type 0
IsCutKind kind.Cut = Unit {0}
IsCutKind other = ⊥

-- an event of that kind is a cut
cut-event : (event : Event) → IsCutKind (kind_of event) → event ≡ Cut
cut-event Cut is = refl
cut-event event is = absurd is

-- the events where cuts alone are asked for
pub cuts-led : (old new : State) → IsLed (IsOfSome (kind.Cut ∷ [])) old new → IsLed IsCut old new
cuts-led = led-wider (IsOfSome (kind.Cut ∷ [])) IsCut
    (λ event some. cut-event event (subst IsCutKind (sym (only-kind kind.Cut event some)) tt))

-- where a batch may be cut, cuts make the count of positions rise, as many as may come
pub cuts-rise : StepsKeep → (old new : State) → IsSound old → CutsAll old new → MayCut old → Rises old.scan.cut new.scan.cut
cuts-rise keep old new sound cuts may = by_events cuts.led.events cuts.led.each cuts.led.took
  where
    by_events : (events : List Event) → All IsCut events → TookAll events old new → Rises old.scan.cut new.scan.cut
    by_events [] each took = absurd (cuts.none Cut refl (subst MayCut (sym took) may))
    by_events (event ∷ events) each took =
        rises-stays keep old.scan.cut took.0 new
        (record {
          events = events;
          each = λ place d low. inr (round-cut _ (All-tail IsCut event events each place d low));
          took = took.2;
        })
        (took-sound keep event old took.0 took.1 sound)
        (rises-cut old took.0 sound (subst (λ (one : Event). Took one old took.0) (All-head IsCut event events each) took.1) old.scan.cut
        (inl (omega arith)))

-- and leave less work
pub cuts-fall : (old new : State) → TookSome old new → CutsAll old new → MayCut old → work_in new < work_in old
cuts-fall old new some cuts may = ⊎_elim
    (λ same. absurd (cuts.none Cut refl (subst MayCut (sym same) may)))
    (λ less. less)
    some

-- a new order leaves a core landed
landed-reordered : (old new : State) → Took Reorder old new → IsLanded old → IsLanded new
landed-reordered old new took landed = record {
  landed = landed-stays Reorder old new tt took landed.landed;
  slots = subst (λ lives. All (IsFreeOrUnderWay lives) lives.slots) (sym (reordered-lives old new took)) landed.slots;
}

-- and so does none
pub landed-ordered : (old new : State) → IsLed IsReorder old new → IsLanded old → IsLanded new
landed-ordered = led-holds IsReorder IsLanded
    (λ event old new is took landed. landed-reordered old new (subst (λ (one : Event). Took one old new) is took) landed)

-- the driver takes events of a round
pub round-driven : (old new : State) → IsLed IsOfRound old new → IsLed IsDriven old new
round-driven = led-wider IsOfRound IsDriven (λ event one. inr one)

-- cuts are of a round
pub cut-round : (old new : State) → IsLed IsCut old new → IsLed IsOfRound old new
cut-round = led-wider IsCut IsOfRound round-cut

-- and so is a landing
pub landing-led-round : (old new : State) → IsLed IsOfLanding old new → IsLed IsOfRound old new
landing-led-round = led-wider IsOfLanding IsOfRound round-landing

-- behind them
pub landing-round : (old cut new : State) → IsLed IsCut old cut → IsLed IsOfLanding cut new → IsLed IsOfRound old new
landing-round old cut new first second =
    led-joined IsOfRound old cut new (cut-round old cut first) (landing-led-round cut new second)

-- a landing and a new order are of a round
pub rest-led : (old landed new : State) → IsLed IsOfLanding old landed → IsLed IsReorder landed new → IsLed IsOfRound old new
rest-led old landed new first second =
    led-joined IsOfRound old landed new (landing-led-round old landed first)
    (led-wider IsReorder IsOfRound round-reorder landed new second)

-- the events of a round
pub led-round : (old new : State) → IsRound old new → IsLed IsOfRound old new
led-round old new round =
    led-joined IsOfRound old round.cut new (cut-round old round.cut round.cuts.led)
    (rest-led round.cut round.landed new round.lands round.orders.led)

-- what cuts leave of the count of positions and of the work stays so through the rest of a round
pub more-stays : StepsKeep → (old mid new : State) → IsSound old → IsLed IsOfRound old mid → IsLed IsOfRound mid new → CutsMore old mid
    → CutsMore old new
more-stays keep old mid new sound first second more =
    let so_sound : IsSound mid = led-sound keep IsOfRound old mid first sound in
    record {
      cuts = λ may. rises-stays keep old.scan.cut mid new (round-driven mid new second) so_sound (more.cuts may);
      less = λ may. let less = more.less may in let rest = work-round keep mid new second so_sound in omega arith;
    }
