-- How many positions are cut in turns, where there is a slot for each query.
use Rattle.core_driver.proofs.Words.{◌*◌, ◌-◌, ◌≡◌, ◌≤◌, Admits, arith, first_in, HasLap, inl, inr, IsLanded, IsLed, IsLedCutting, IsOfAdmission, IsOfLanding, IsOfRound, IsSound, EndsWithin, length, State, StepsKeep, subst, sym, unfinished_in, versions_in, ℕ, ⊎_elim}
use Rattle.core_driver.specs.Lap.{HasLapBegun, IsBound, IsToBegin}
use Rattle.core_driver.proofs.CuttingLemmas.{led-of}
use Rattle.core_driver.proofs.LapAdmitLemmas.{Admitted, AllBegan}
use Rattle.core_driver.proofs.LapBeginLemmas.{began-none, first-admitted, led-admitted, versions-admitted, within-any, within-began}
use Rattle.core_driver.proofs.LapLandingLemmas.{led-lands}
use Rattle.core_driver.proofs.LapRestLemmas.{Rests, rests-land, round-rests}
use Rattle.core_driver.proofs.LapRoundLemmas.{round-within}
use Rattle.core_driver.proofs.LapSlotsLemmas.{slots-for-all}
use Rattle.core_driver.proofs.LapStartLemmas.{none-admitted, none-to-start}
use Rattle.core_driver.proofs.LedLemmas.{led-sound}

-- once what was in flight has landed, the lap is to begin
pub lap-lands : StepsKeep → (bound : ℕ) (from state : State) → IsSound from → IsLed IsOfLanding from state
    → IsLanded state → unfinished_in from ≤ length from.lives.slots → IsBound bound from → HasLap bound state
lap-lands keep bound from state sound led lands few bounds =
    let rests : Rests from state = rests-land from state (led-lands from state led) in
    let later : IsSound state = led-sound keep IsOfLanding from state led sound in
    inl (record {
      slots = slots-for-all state later.slots.lives lands.slots
          (let less = rests.unfinished in let many = rests.slots in omega arith);
      is_bound = let same = rests.versions in
          ⊎_elim (λ twice. inl (omega arith)) (λ once. inr ((let one = once.0 in omega arith), rests.runs once.1)) bounds;
    })

-- how far the scan goes from a state in which all are admitted
begins-within : (left : ℕ) (old mid : State) → IsSound mid → IsToBegin left old → Admitted old mid → EndsWithin left mid
begins-within left old mid sound begins admits =
    let same : versions_in mid ≡ versions_in old = versions-admitted old mid admits in
    ⊎_elim
    (λ twice. subst (λ n. EndsWithin n mid) (let is : 2 * versions_in mid ≡ left = omega arith in is) (within-any mid))
    (λ once.
    let began : AllBegan (first_in mid) mid = subst (λ start. AllBegan start mid) (sym (first-admitted old mid admits))
    (admits.began (began-none (first_in old) old once.1)) in
    let one = once.0 in
    subst (λ n. EndsWithin n mid) (let is : versions_in mid ≡ left = omega arith in is) (within-began mid sound began)) begins.is_bound

-- once all are admitted, the lap has begun
begun : StepsKeep → (left : ℕ) (old mid : State) → IsSound old → HasLap left old → Admits old mid → HasLapBegun left mid
begun keep left old mid sound has admits = ⊎_elim
    (λ begins.
    let after : Admitted old mid = led-admitted old mid admits.led in
    let later : IsSound mid = led-sound keep IsOfAdmission old mid admits.led sound in
    record {
      none = none-to-start old mid later (after.slots begins.slots) admits;
      within = begins-within left old mid later begins after;
    })
    (λ began. subst (HasLapBegun left) (sym (none-admitted old mid began.none admits.led)) began) has

-- a round behind an admission cuts no more positions than the lap has left, and keeps it
pub lap-goes : StepsKeep → (cut left : ℕ) (old mid new : State) → IsSound old → HasLap left old → Admits old mid
    → IsLedCutting IsOfRound cut mid new → (cut ≤ left) × HasLap (left - cut) new
lap-goes keep cut left old mid new sound has admits led =
    let began = begun keep left old mid sound has admits in
    let within = round-within keep cut left mid new led (led-sound keep IsOfAdmission old mid admits.led sound) began.within in
    (within.0, inr (record { none = (round-rests mid new (led-of IsOfRound cut mid new led)).start began.none; within = within.1 }))
