-- Where no admission may come, no query waits for which there is a slot, and none is built for.
use Rattle.core_driver.proofs.Words.{◌∙◌, ◌∷◌, ◌≡◌, [], Admits, All, All-head, Any, ap, arith, Build, Clearing, eqb, Event, false, find, find-holds, find-none, find-passes, Free, get_or, HasSlotsForAll, Held, is_free, is_to_start, is_waiting, IsEnabled, IsLed, IsOfAdmission, IsSound, Life, life_of, List, None, NoneIsToStart, NoneMayCome, oldest_waiting, Option, option_map, query_in, query_in-found, QueryLife, refl, Reserve, SlotState, Some, Start, State, sym, TookAll, true, ℕ, ⊎_elim}
use Rattle.pipeline_manager.specs.declared.life.Life.TheVariants as life
use Rattle.core_state.proofs.FoundLemmas.{life-found}
use Rattle.event_core.specs.declared.choosing.EventKind.TheVariants as kind
use Rattle.core_driver.proofs.LapCountLemmas.{count-one, count-some}
use Rattle.core_driver.proofs.SettleLemmas.{builds-none, waits-none}

-- a slot that is known by its test
pub free-is : (slot : SlotState) → is_free slot ≡ true → slot ≡ Free
free-is Free is = refl
free-is (Held query built) is = cc
free-is (Clearing left) is = cc

-- where some query waits, some slot is free
slot-free : (state : State) (first : QueryLife) → HasSlotsForAll state → find (λ entry. is_waiting entry.life) state.lives.queries ≡ Some first
    → Any (λ slot. is_free slot ≡ true) state.lives.slots
slot-free state first slots found =
    let one = count-one (λ entry. is_waiting entry.life) state.lives.queries first found in
    count-some is_free state.lives.slots (omega arith)

-- no query waits
none-waits : (state : State) → HasSlotsForAll state → NoneMayCome kind.Reserve state
    → All (λ entry. is_waiting entry.life ≡ false) state.lives.queries
none-waits state slots none =
    by_found (find (λ entry. is_waiting entry.life) state.lives.queries) refl
  where
    by_found : (o : Option QueryLife) → find (λ entry. is_waiting entry.life) state.lives.queries ≡ o
        → All (λ entry. is_waiting entry.life ≡ false) state.lives.queries
    by_found None found = find-none (λ entry. is_waiting entry.life) state.lives.queries found
    by_found (Some first) found =
        absurd (⊎_elim
        (λ is.
        let both : Some first.query ≡ None = sym (ap (option_map (λ (entry : QueryLife). entry.query)) found) ∙ is in cc)
        (λ used.
        let any = slot-free state first slots found in
        used any.0 any.1 any.2 (free-is (get_or state.lives.slots any.0 any.1) (ap is_free any.3 ∙ any.4)))
        (waits-none state none))

-- a life that neither waits nor is Building is not to begin to run
not-to-start : (now : Life) → is_waiting now ≡ false → (now ≡ life.Building → ⊥) → is_to_start now ≡ false
not-to-start life.Waiting waits built = cc
not-to-start life.Building waits built = absurd (built refl)
not-to-start other waits built = refl

-- where there is a slot for each query that waits, all are admitted
pub none-to-start : (old state : State) → IsSound state → HasSlotsForAll state → Admits old state → NoneIsToStart state
none-to-start old state sound slots admits = λ k d low.
    let entry : QueryLife = get_or state.lives.queries k d in
    let found : query_in state.lives.queries entry.query ≡ Some entry =
    query_in-found state.lives.queries k entry.query d sound.slots.lives.rising low refl in
    not-to-start entry.life (none-waits state slots admits.reserve k d low)
    (λ is. builds-none state admits.build admits.start entry.query
    (life-found state.lives.queries entry.query entry found ∙ ap Some is))

-- what waits is to begin to run
waits-start : (now : Life) → is_waiting now ≡ true → is_to_start now ≡ true
waits-start life.Waiting waits = refl
waits-start life.Building waits = refl
waits-start other waits = waits

-- where no query is to begin to run, none waits
never-waits : (state : State) (query : ℕ) → NoneIsToStart state → oldest_waiting state.lives ≡ Some query → ⊥
never-waits state query none oldest = by_found (find (λ entry. is_waiting entry.life) state.lives.queries) refl oldest
  where
    by_found : (o : Option QueryLife) → find (λ entry. is_waiting entry.life) state.lives.queries ≡ o
        → option_map (λ entry. entry.query) o ≡ Some query → ⊥
    by_found None found is = cc
    by_found (Some first) found is =
        let to_start : is_to_start first.life ≡ true =
        waits-start first.life (find-passes (λ entry. is_waiting entry.life) state.lives.queries first found) in
        let never : is_to_start first.life ≡ false =
        find-holds (λ entry. is_to_start entry.life ≡ false) (λ entry. is_waiting entry.life) state.lives.queries first found none in
        let both : false ≡ true = sym never ∙ to_start in cc

-- none is built for
never-built : (state : State) (query : ℕ) → NoneIsToStart state → life_of state.lives query ≡ Some life.Building → ⊥
never-built state query none building = by_found (query_in state.lives.queries query) refl building
  where
    by_found : (o : Option QueryLife) → query_in state.lives.queries query ≡ o → option_map (λ entry. entry.life) o ≡ Some life.Building → ⊥
    by_found None found is = cc
    by_found (Some entry) found is =
        let never : is_to_start entry.life ≡ false =
        find-holds (λ entry. is_to_start entry.life ≡ false) (λ entry. eqb entry.query query) state.lives.queries entry found none in
        let same : entry.life ≡ life.Building = cc in
        let both : true ≡ false = ap is_to_start (sym same) ∙ never in cc

-- no admission may come
pub none-enabled : (event : Event) (state : State) → NoneIsToStart state → IsOfAdmission event → IsEnabled state event → ⊥
none-enabled (Reserve query slot) state none one enabled = never-waits state query none enabled.oldest
none-enabled (Build query dimension) state none one enabled = never-built state query none enabled.building
none-enabled (Start query) state none one enabled = never-built state query none enabled.building
none-enabled event state none one enabled = absurd one

-- no admission was taken
no-events : (events : List Event) (old new : State) → NoneIsToStart old → All IsOfAdmission events → TookAll events old new → new ≡ old
no-events [] old new none each took = took
no-events (event ∷ events) old new none each took =
    absurd (none-enabled event old none (All-head IsOfAdmission event events each) took.1.enabled)

-- where no query is to begin to run, an admission changes nothing
pub none-admitted : (old new : State) → NoneIsToStart old → IsLed IsOfAdmission old new → new ≡ old
none-admitted old new none led = no-events led.events old new none led.each led.took
