-- Who holds a slot has a life, and was accepted.
use Rattle.core_state.proofs.Words.{◌<◌, ◌∙◌, ◌≡◌, ◌≤◌, Accepted, accepted_at, AllPairs, ap, AreSoundQueries, arith, cond, eq-eqb, eqb, false, Free, get_or, get_or-le-sum_by, get_or-map, Held, is_some, IsOnRoster, IsSome, IsSound, IsSoundQuery, length, length-map, life_in, List, list_any, Lives, None, OnRoster, Option, option_map, query_in, QueryLife, refl, slot_at, SlotState, Some, State, sym, true, ℕ}
use Rattle.pipeline_manager.specs.Lives.{is_held_by}
use Rattle.pipeline_manager.specs.Sound as managed
use Rattle.pipeline_manager.specs.Sound.{AreRising, FitsSlots}
use Rattle.pipeline_manager.specs.declared.life.Life.TheVariants as life
use Rattle.core_state.proofs.FoundLemmas.{accepted-number, some-at, some-of}
pub use Rattle.star_values.proofs.PlaceLemmas.{find-holds, find-none, number-found}

-- what is the number of no accepted query is that of no life
pub none-lives : (state : State) → AreSoundQueries state → (number : ℕ) → accepted_at state.accepted number ≡ None
    → life_in state.lives.queries number ≡ None
none-lives state queries number none = by_found (query_in state.lives.queries number)
    (number-found (λ entry. entry.query) state.lives.queries number ∙ ap (list_any (λ n. eqb n number)) (sym queries.same)
    ∙ sym (number-found (λ accepted. accepted.number) state.accepted number) ∙ ap is_some none)
  where
    by_found : (o : Option QueryLife) → is_some o ≡ false → option_map (λ entry. entry.life) o ≡ None
    by_found None e = refl
    by_found (Some entry) e = absurd (let both : true ≡ false = e in cc)

-- the numbers of the accepted queries rise, since those that have lives do
pub accepted-rising : (state : State) → AreSoundQueries state → AreRising state.lives.queries
    → AllPairs (λ accepted later. accepted.number < later.number) state.accepted
accepted-rising state queries rising i j d before low =
    let lives : List QueryLife = state.lives.queries in
    let count : length state.accepted ≡ length lives =
    sym (length-map state.accepted (λ a. a.number)) ∙ ap (λ (ns : List ℕ). length ns) queries.same ∙ length-map lives (λ e. e.query) in
    let here : i < length lives = omega arith in
    let there : j < length lives = omega arith in
    let one = at i (omega arith) here in
    let other = at j low there in
    let rises = rising i j none before there in
    omega arith
  where
    none : QueryLife
    none = record { query = 0; extent = 0; life = life.Waiting }

    at : (k : ℕ) → k < length state.accepted → k < length state.lives.queries
        → (get_or state.accepted k d).number ≡ (get_or state.lives.queries k none).query
    at k low_accepted low_lives =
        sym (get_or-map (λ a. a.number) state.accepted k d 0 low_accepted)
        ∙ ap (λ ns. get_or ns k 0) queries.same
        ∙ get_or-map (λ e. e.query) state.lives.queries k none 0 low_lives

-- who holds a slot has a life
pub held-life : (lives : Lives) (slot query built : ℕ) → managed.AreSoundLives lives → slot < length lives.slots
    → slot_at lives slot ≡ Held query built → IsSome (query_in lives.queries query)
held-life lives slot query built sound there holds = by_found (query_in lives.queries query) (sound.held query)
  where
    some : 1 ≤ managed.slots_held query lives.slots
    some =
        let weight : SlotState → ℕ = λ s. cond {A = ℕ} (is_held_by query s) 1 0 in
        let here : weight (slot_at lives slot) ≡ 1 = ap weight holds ∙ ap (λ b. cond {A = ℕ} b 1 0) (eq-eqb query query refl) in
        omega (arith, here, get_or-le-sum_by weight lives.slots slot Free there)

    by_found : (o : Option QueryLife) → FitsSlots (option_map (λ e. e.life) o) (managed.slots_held query lives.slots) → IsSome o
    by_found None fits = let one = some in absurd (omega arith)
    by_found (Some e) fits = refl

-- who is accepted has a life, and who has one is accepted
pub accepted-lives : (state : State) (query : ℕ) → AreSoundQueries state
    → is_some (accepted_at state.accepted query) ≡ is_some (query_in state.lives.queries query)
accepted-lives state query queries =
    number-found (λ accepted. accepted.number) state.accepted query
    ∙ ap (list_any (λ n. eqb n query)) queries.same
    ∙ sym (number-found (λ entry. entry.query) state.lives.queries query)

-- who holds a slot was accepted
pub held-accepted : (state : State) (slot query built : ℕ) → IsSound state → slot < length state.lives.slots
    → slot_at state.lives slot ≡ Held query built → IsSome (accepted_at state.accepted query)
held-accepted state slot query built sound there holds =
    accepted-lives state query sound.queries ∙ held-life state.lives slot query built sound.slots.lives there holds

-- an accepted query that is found is sound, and has its number
pub of-accepted : (state : State) (query : ℕ) (accepted : Accepted) → AreSoundQueries state
    → accepted_at state.accepted query ≡ Some accepted → IsSoundQuery state accepted × (accepted.number ≡ query)
of-accepted state query accepted queries found = (
  find-holds (IsSoundQuery state) (λ a. eqb a.number query) state.accepted accepted found queries.each,
  accepted-number state.accepted query accepted found,
)

-- so is who holds a slot
pub holder-accepted : (state : State) (slot query built : ℕ) → IsSound state → slot < length state.lives.slots
    → slot_at state.lives slot ≡ Held query built
    → (accepted : Accepted) × (accepted_at state.accepted query ≡ Some accepted) × IsSoundQuery state accepted × (accepted.number ≡ query)
holder-accepted state slot query built sound there holds =
    let found = some-of (accepted_at state.accepted query) (held-accepted state slot query built sound there holds) in
    let of = of-accepted state query found.0 sound.queries found.1 in
    (found.0, found.1, of.0, of.1)

-- a query on a roster was accepted, with its query and its snapshot
pub accepted-on : (state : State) → IsSound state → (entry : OnRoster) → IsOnRoster state.lives state.accepted entry
    → (asked : Accepted) × (accepted_at state.accepted entry.number ≡ Some asked) × (asked.query ≡ entry.query) × (asked.snapshot ≡ entry.snapshot)
accepted-on state sound entry on =
    let found = holder-accepted state entry.slot entry.number on.held.0 sound on.there on.held.1 in
    let same = some-at (λ asked. (asked.query ≡ entry.query) × (asked.snapshot ≡ entry.snapshot)) (accepted_at state.accepted entry.number) found.0
    found.1 on.same in
    (found.0, found.1, same.0, same.1)
