-- What a loop that takes events of some kinds leaves.
use Rattle.core_driver.proofs.Words.{◌<◌, ◌≡◌, [], All, arith, Event, EventKind, inr, IsLed, IsManaged, IsOfSome, IsSound, List, State, subst, Took, TookSome, work_in, ⊎_elim}
use Rattle.core_driver.proofs.KindLemmas.{IsStillKind, kind-of-some, still-of-some}
use Rattle.core_driver.proofs.LandLemmas.{landed-stays}
use Rattle.core_driver.proofs.LedLemmas.{led-holds}
use Rattle.core_driver.proofs.WorkLemmas.{work-taken}

-- an event of some kinds leaves less work
pub work-of-some : (kinds : List EventKind) (event : Event) (old new : State) → All IsManaged kinds → IsSound old → IsOfSome kinds event
    → Took event old new → work_in new < work_in old
work-of-some kinds event old new all sound some took = work-taken event old new sound (kind-of-some IsManaged kinds event all some) took

-- where none is in flight, none is then
pub landed-led-on : (kinds : List EventKind) → All IsStillKind kinds → (old new : State) → IsLed (IsOfSome kinds) old new
    → old.scan.flights ≡ [] → new.scan.flights ≡ []
landed-led-on kinds all = led-holds (IsOfSome kinds) (λ state. state.scan.flights ≡ [])
    (λ event before after some took landed. landed-stays event before after (still-of-some kinds event all some) took landed)

-- where one more leaves less work, the loop left less
pub some-more : (first old new : State) → TookSome first old → work_in new < work_in old → TookSome first new
some-more first old new some less = inr (⊎_elim
    (λ same. subst (λ state. work_in new < work_in state) same less)
    (λ before. omega arith)
    some)
