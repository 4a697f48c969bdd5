-- Events that were taken, one after the other: what each keeps, all keep.
use Rattle.core_driver.proofs.Words.{◌∷◌, ◌≡◌, [], All, All-head, All-nil, All-push, All-tail, All-weaker, Event, IsLed, IsSound, List, refl, State, StepsKeep, subst, sym, Took, TookAll}
use Rattle.std.proofs.Common.{◌++◌}
use Rattle.std.proofs.lemmas.List.Elements.{All-append}
use Rattle.event_core.proofs.TakenStepLemmas.{StepFor, taken-step}

-- an event that was taken keeps a core sound
pub took-sound : StepsKeep → (event : Event) (old new : State) → Took event old new → IsSound old → IsSound new
took-sound keep event old new took sound =
    let made : StepFor event old new = taken-step event old new took.enabled took.after in
    subst IsSound (sym made.after) (keep made.step old made.may sound)

-- what each event of some keeps
abbrev pub EachHolds : (IsOne : Event → Type 0) (P : State → Type 0) → Type 0
EachHolds IsOne P = (event : Event) (old new : State) → IsOne event → Took event old new → P old → P new

-- what each keeps, all keep, one after the other
took-holds : (IsOne : Event → Type 0) (P : State → Type 0) → EachHolds IsOne P → (events : List Event) (old new : State)
    → All IsOne events → TookAll events old new → P old → P new
took-holds IsOne P each [] old new all took holds = subst P (sym took) holds
took-holds IsOne P each (event ∷ events) old new all took holds =
    took-holds IsOne P each events took.0 new (All-tail IsOne event events all) took.2
    (each event old took.0 (All-head IsOne event events all) took.1 holds)

-- a list of them keeps
pub led-holds : (IsOne : Event → Type 0) (P : State → Type 0) → EachHolds IsOne P → (old new : State) → IsLed IsOne old new → P old → P new
led-holds IsOne P each old new led holds = took-holds IsOne P each led.events old new led.each led.took holds

-- a core stays sound
pub led-sound : StepsKeep → (IsOne : Event → Type 0) (old new : State) → IsLed IsOne old new → IsSound old → IsSound new
led-sound keep IsOne = led-holds IsOne IsSound (λ event old new is took sound. took-sound keep event old new took sound)

-- what each event of some keeps, between sound cores
abbrev pub EachKeeps : (IsOne : Event → Type 0) (P : State → Type 0) → Type 0
EachKeeps IsOne P = (event : Event) (old new : State) → IsOne event → IsSound old → Took event old new → P old → P new

-- a list of them keeps
pub led-keeps : StepsKeep → (IsOne : Event → Type 0) (P : State → Type 0) → EachKeeps IsOne P → (old new : State)
    → IsLed IsOne old new → IsSound old → P old → P new
led-keeps keep IsOne P each old new led sound holds =
    (led-holds IsOne (λ state. P state × IsSound state)
    (λ event before after is took both. (each event before after is both.1 took both.0, took-sound keep event before after took both.1))
    old new led (holds, sound)).0

-- no event leads from a core to itself
pub led-none : (IsOne : Event → Type 0) (old new : State) → new ≡ old → IsLed IsOne old new
led-none IsOne old new same = record { events = []; each = All-nil IsOne; took = same }

-- events that were taken, and others behind them
took-joined : (events more : List Event) (old mid new : State) → TookAll events old mid → TookAll more mid new → TookAll (events ++ more) old new
took-joined [] more old mid new first second = subst (λ state. TookAll more state new) first second
took-joined (event ∷ events) more old mid new first second =
    (first.0, first.1, took-joined events more first.0 mid new first.2 second)

-- events and others behind them
pub led-joined : (IsOne : Event → Type 0) (old mid new : State) → IsLed IsOne old mid → IsLed IsOne mid new → IsLed IsOne old new
led-joined IsOne old mid new first second = record {
  events = first.events ++ second.events;
  each = All-append IsOne first.events second.events first.each second.each;
  took = took-joined first.events second.events old mid new first.took second.took;
}

-- events and one more
pub led-more : (IsOne : Event → Type 0) (old mid new : State) (event : Event) → IsLed IsOne old mid → IsOne event → Took event mid new
    → IsLed IsOne old new
led-more IsOne old mid new event led is took = record {
  events = led.events ++ event ∷ [];
  each = All-push IsOne led.events event led.each is;
  took = took-joined led.events (event ∷ []) old mid new led.took (new, took, refl);
}

-- events of some are events of more
pub led-wider : (IsOne IsOther : Event → Type 0) → ((event : Event) → IsOne event → IsOther event) → (old new : State)
    → IsLed IsOne old new → IsLed IsOther old new
led-wider IsOne IsOther wider old new led = record {
  events = led.events;
  each = All-weaker IsOne IsOther wider led.events led.each;
  took = led.took;
}
