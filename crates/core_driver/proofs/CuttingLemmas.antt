-- How many positions the cuts of events hold together.
use Rattle.core_driver.proofs.Words.{◌+◌, ◌-◌, ◌∷◌, ◌≡◌, ◌≤◌, [], All, All-head, All-tail, All-weaker, arith, Cut, Event, IsLed, IsLedCutting, IsOfAdmission, IsOfLanding, IsReorder, IsSound, List, positions_of, refl, State, StepsKeep, subst, sym, Took, TookAll, TookCutting, ℕ}
use Rattle.std.proofs.Common.{◌++◌}
use Rattle.std.proofs.lemmas.List.Elements.{All-append}
use Rattle.core_driver.proofs.LedLemmas.{took-sound}

-- events that were taken cut so many
count-took : (events : List Event) (old new : State) → TookAll events old new → (cut : ℕ) × TookCutting events cut old new
count-took [] old new took = (0, (refl, took))
count-took (event ∷ events) old new took =
    let rest = count-took events took.0 new took.2 in
    (positions_of event old + rest.0, (took.0, rest.0, refl, took.1, rest.1))

pub count-led : (IsOne : Event → Type 0) (old new : State) → IsLed IsOne old new → (cut : ℕ) × IsLedCutting IsOne cut old new
count-led IsOne old new led =
    let counted = count-took led.events old new led.took in
    (counted.0, record { events = led.events; each = led.each; took = counted.1 })

-- they were taken, however many they cut
took-of : (events : List Event) (cut : ℕ) (old new : State) → TookCutting events cut old new → TookAll events old new
took-of [] cut old new took = took.1
took-of (event ∷ events) cut old new took = (took.0, took.3, took-of events took.1 took.0 new took.4)

pub led-of : (IsOne : Event → Type 0) (cut : ℕ) (old new : State) → IsLedCutting IsOne cut old new → IsLed IsOne old new
led-of IsOne cut old new led =
    record { events = led.events; each = led.each; took = took-of led.events cut old new led.took }

-- events of some are events of more
pub cutting-wider : (IsOne IsOther : Event → Type 0) → ((event : Event) → IsOne event → IsOther event) → (cut : ℕ) (old new : State)
    → IsLedCutting IsOne cut old new → IsLedCutting IsOther cut old new
cutting-wider IsOne IsOther wider cut old new led =
    record { events = led.events; each = All-weaker IsOne IsOther wider led.events led.each; took = led.took }

-- events and others behind them cut what both cut
took-both : (events more : List Event) (first second : ℕ) (old mid new : State) → TookCutting events first old mid
    → TookCutting more second mid new → TookCutting (events ++ more) (first + second) old new
took-both [] more first second old mid new took after =
    let none = took.0 in
    subst (λ n. TookCutting more n old new) (let same : second ≡ first + second = omega arith in same)
    (subst (λ state. TookCutting more second state new) took.1 after)
took-both (event ∷ events) more first second old mid new took after =
    let count = took.2 in
    (took.0, took.1 + second, (omega arith), took.3, took-both events more took.1 second took.0 mid new took.4 after)

pub cutting-joined : (IsOne : Event → Type 0) (first second : ℕ) (old mid new : State) → IsLedCutting IsOne first old mid
    → IsLedCutting IsOne second mid new → IsLedCutting IsOne (first + second) old new
cutting-joined IsOne first second old mid new led after = record {
  events = led.events ++ after.events;
  each = All-append IsOne led.events after.events led.each after.each;
  took = took-both led.events after.events first second old mid new led.took after.took;
}

-- what each event of some leaves where so many positions more may be cut
abbrev pub SpendsEach : (IsOne : Event → Type 0) (P : ℕ → State → Type 0) → Type 0
SpendsEach IsOne P = (event : Event) (left : ℕ) (old new : State) → IsOne event → IsSound old → Took event old new → P left old
    → (positions_of event old ≤ left) × P (left - positions_of event old) new

-- a list of them leaves, one after the other
took-spends : StepsKeep → (IsOne : Event → Type 0) (P : ℕ → State → Type 0) → SpendsEach IsOne P → (events : List Event) (cut left : ℕ)
    (old new : State) → All IsOne events → TookCutting events cut old new → IsSound old → P left old → (cut ≤ left) × P (left - cut) new
took-spends keep IsOne P each [] cut left old new all took sound holds =
    let none = took.0 in (
      (omega arith),
      subst (P (left - cut)) (sym took.1) (subst (λ n. P n old) (let same : left ≡ left - cut = omega arith in same) holds),
    )
took-spends keep IsOne P each (event ∷ events) cut left old new all took sound holds =
    let first = each event left old took.0 (All-head IsOne event events all) sound took.3 holds in
    let rest = took-spends keep IsOne P each events took.1 (left - positions_of event old) took.0 new (All-tail IsOne event events all) took.4
    (took-sound keep event old took.0 took.3 sound) first.1 in
    let count = took.2 in
    let low = first.0 in
    let more = rest.0 in (
      (omega arith),
      subst (λ n. P n new) (let same : left - positions_of event old - took.1 ≡ left - cut = omega arith in same) rest.1,
    )

pub led-spends : StepsKeep → (IsOne : Event → Type 0) (P : ℕ → State → Type 0) → SpendsEach IsOne P → (cut left : ℕ) (old new : State)
    → IsLedCutting IsOne cut old new → IsSound old → P left old → (cut ≤ left) × P (left - cut) new
led-spends keep IsOne P each cut left old new led = took-spends keep IsOne P each led.events cut left old new led.each led.took

-- events of which none is a cut cut nothing
took-none : (IsOne : Event → Type 0) → ((event : Event) (state : State) → IsOne event → positions_of event state ≡ 0) → (events : List Event)
    (cut : ℕ) (old new : State) → All IsOne events → TookCutting events cut old new → cut ≡ 0
took-none IsOne none [] cut old new all took = took.0
took-none IsOne none (event ∷ events) cut old new all took =
    let here = none event old (All-head IsOne event events all) in
    let rest = took-none IsOne none events took.1 took.0 new (All-tail IsOne event events all) took.4 in
    let count = took.2 in
    omega arith

pub cuts-nothing : (IsOne : Event → Type 0) → ((event : Event) (state : State) → IsOne event → positions_of event state ≡ 0)
    → (old new : State) → IsLed IsOne old new → IsLedCutting IsOne 0 old new
cuts-nothing IsOne none old new led =
    let some = count-led IsOne old new led in
    let many = took-none IsOne none some.1.events some.0 old new some.1.each some.1.took in
    subst (λ n. IsLedCutting IsOne n old new) many some.1

-- such as those of an admission, of a landing, and that which orders the filters
pub admission-cuts : (event : Event) (state : State) → IsOfAdmission event → positions_of event state ≡ 0
admission-cuts Cut state one = absurd one
admission-cuts event state one = refl

pub landing-cuts : (event : Event) (state : State) → IsOfLanding event → positions_of event state ≡ 0
landing-cuts Cut state one = absurd one
landing-cuts event state one = refl

pub reorder-cuts : (event : Event) (state : State) → IsReorder event → positions_of event state ≡ 0
reorder-cuts event state is = subst (λ (e : Event). positions_of e state ≡ 0) (sym is) refl
