-- Where a query runs and a frame is free, a batch is cut, and the count of positions rises.
use Rattle.core_driver.proofs.Words.{◌+◌, ◌-◌, ◌<◌, ◌∙◌, ◌∷◌, ◌≡◌, ◌≤◌, ◌⊎◌, [], Abandon, All, All-head, All-tail, ap, arith, Carry, cases_lt, Cut, cuts, Distribute, end_in, Event, first_in, Give, inl, inr, IsDriven, IsLed, IsLedCutting, IsOfAdmission, IsRunning, IsSomeAnd, IsSound, life-runs, life_of, List, MayCut, positions_of, refl, Rises, Runs, ScanState, Some, some-runs, State, StepsKeep, Submit, subst, sym, Take, Took, TookCutting, ℕ, ⊎_elim}
use Rattle.pipeline_manager.specs.declared.life.Life.TheVariants as life
use Rattle.core_state.specs.Events.{after_event}
use Rattle.core_state.specs.Numbered.{counted, last_number}
use Rattle.core_driver.proofs.LedLemmas.{led-holds, led-keeps}
use Rattle.core_driver.proofs.PassedLemmas.{took-hands}
use Rattle.core_driver.proofs.SettleLemmas.{some-run}
use Rattle.core_driver.proofs.StayLemmas.{runs-stays}
use Rattle.core_driver.proofs.TakenLemmas.{distributes, still-admission, still-leaves}

-- as many frames are free after an admission
same-free : (old new : State) → IsLed IsOfAdmission old new → new.scan.free ≡ old.scan.free
same-free old new led = led-holds IsOfAdmission (λ state. state.scan.free ≡ old.scan.free)
    (λ event before after admits took same.
    ap (λ (scan : ScanState). scan.free) (still-leaves event before after (still-admission event admits) took).scan ∙ same)
    old new led refl

-- where a batch may be cut, one may be cut after an admission
pub cut-stays : StepsKeep → (old new : State) → IsLed IsOfAdmission old new → IsSound old → MayCut old → MayCut new
cut-stays keep old new led sound can =
    let some : Runs old = some-runs old can sound in
    let runs : life_of new.lives some.entry.query ≡ Some (life.Running some.start some.left) =
    runs-stays keep some.entry.query some.start some.left old new led sound (life-runs old some) in
    record {
      running = some-run IsRunning new.lives.queries some.entry.query (subst (λ o. IsSomeAnd o IsRunning) (sym runs) tt);
      frame = subst (λ free. 0 < free) (sym (same-free old new led)) can.frame;
    }

-- a count of some more rises
rises-counted : (first now more : ℕ) → (first ≤ now) ⊎ (now ≡ last_number) → 0 < more → Rises first (counted now more)
rises-counted first now more so_far some = ⊎_elim
    (λ below. ⊎_elim
    (λ low. inl (let sum : counted now more ≡ now + more = omega arith in omega arith))
    (λ high. inr (let most : counted now more ≡ last_number = omega arith in most))
    so_far)
    (λ past. inr (let most : counted now more ≡ last_number = omega arith in most))
    (cases_lt (now + more) last_number)

-- a cut makes the count of positions rise
pub rises-cut : (old new : State) → IsSound old → Took Cut old new → (count : ℕ) → (count ≤ old.scan.cut) ⊎ (old.scan.cut ≡ last_number)
    → Rises count new.scan.cut
unfolding after_event
rises-cut old new sound took count so_far = ⊎_elim
    (λ done. subst (λ (state : State). Rises count state.scan.cut) (sym done)
    (let after = (cuts old took.enabled sound).after in
    rises-counted count old.scan.cut (end_in old - first_in old) so_far (omega arith)))
    (λ never. absurd never)
    took.after

-- a count that rose is as great or greater
risen : (first now : ℕ) → Rises first now → (first ≤ now) ⊎ (now ≡ last_number)
risen first now rises = ⊎_elim (λ more. inl (omega arith)) (λ most. inr most) rises

-- no event of the driver but a cut changes it
count-same : (event : Event) (old new : State) → IsDriven event → Took event old new → (event ≡ Cut) ⊎ (new.scan.cut ≡ old.scan.cut)
count-same (Submit seat statement) old new driven took = absurd (⊎_elim (λ never. never) (λ never. never) driven)
count-same Cut old new driven took = inl refl
count-same (Take worker batch) old new driven took = inr (took-hands (Take worker batch) old new tt took).cut
count-same (Carry worker batch) old new driven took = absurd (⊎_elim (λ never. never) (λ never. never) driven)
count-same (Give worker) old new driven took = inr (took-hands (Give worker) old new tt took).cut
count-same (Distribute batch) old new driven took = inr (ap (λ (scan : ScanState). scan.cut) (distributes batch old new took).scan)
count-same (Abandon query) old new driven took = absurd (⊎_elim (λ never. never) (λ never. never) driven)
count-same other old new driven took = inr (ap (λ (scan : ScanState). scan.cut) (still-leaves other old new tt took).scan)

-- none lowers it
rises-same : (event : Event) (old new : State) → IsDriven event → IsSound old → Took event old new → (count : ℕ) → Rises count old.scan.cut
    → Rises count new.scan.cut
rises-same event old new driven sound took count rises = ⊎_elim
    (λ is. rises-cut old new sound (subst (λ (one : Event). Took one old new) is took) count (risen count old.scan.cut rises))
    (λ same. subst (Rises count) (sym same) rises) (count-same event old new driven took)

-- nor does a list of them
pub rises-stays : StepsKeep → (count : ℕ) (old new : State) → IsLed IsDriven old new → IsSound old → Rises count old.scan.cut
    → Rises count new.scan.cut
rises-stays keep count = led-keeps keep IsDriven (λ state. Rises count state.scan.cut)
    (λ event old new driven sound took rises. rises-same event old new driven sound took count rises)

-- and none adds more to it than it cuts
counts-cut : (old new : State) → Took Cut old new → new.scan.cut ≤ old.scan.cut + positions_of Cut old
unfolding after_event
counts-cut old new took = ⊎_elim
    (λ done. subst (λ (state : State). state.scan.cut ≤ old.scan.cut + positions_of Cut old) (sym done) (omega arith))
    (λ never. absurd never) took.after

counts-taken : (event : Event) (old new : State) → IsDriven event → Took event old new → new.scan.cut ≤ old.scan.cut + positions_of event old
counts-taken event old new driven took = ⊎_elim
    (λ is. subst (λ (one : Event). new.scan.cut ≤ old.scan.cut + positions_of one old) (sym is)
    (counts-cut old new (subst (λ (one : Event). Took one old new) is took)))
    (λ same. omega arith) (count-same event old new driven took)

counts-took : (events : List Event) (cut : ℕ) (old new : State) → All IsDriven events → TookCutting events cut old new
    → new.scan.cut ≤ old.scan.cut + cut
counts-took [] cut old new driven took =
    let none = took.0 in let same = ap (λ (state : State). state.scan.cut) took.1 in omega arith
counts-took (event ∷ events) cut old new driven took =
    let first = counts-taken event old took.0 (All-head IsDriven event events driven) took.3 in
    let rest = counts-took events took.1 took.0 new (All-tail IsDriven event events driven) took.4 in
    let count = took.2 in
    omega arith

-- so that behind events it is no more than what they cut, and what it was
pub counts-led : (cut : ℕ) (old new : State) → IsLedCutting IsDriven cut old new → new.scan.cut ≤ old.scan.cut + cut
counts-led cut old new led = counts-took led.events cut old new led.each led.took
