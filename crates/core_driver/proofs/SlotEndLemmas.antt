-- Which slots and lives are left where no more calls may come.
use Rattle.core_driver.proofs.Words.{◌<◌, ◌∙◌, ◌∷◌, ◌≡◌, ◌≢◌, ◌≤◌, [], All, All-head, All-tail, All-weaker, ap, arith, bit_at, CanBuild, CanClear, CanEnd, CanFree, CanRun, cases_eq, Clearing, cond, eq-eqb, false, Free, get_or, Held, is_held_by, is_open, is_waiting, IsFreeOrRuns, IsFreeOrUnderWay, IsHolderOver, IsRunning, IsSomeAnd, IsToClear, IsTrue, IsUnderWay, length, Life, life_in, life_of, List, Lives, Option, option_map, option_map_or, query_in, query_in-found, QueryLife, refl, slot_at, slots_held, SlotState, Some, subst, sum_by-cons, sym, true, ℕ, ⊎_elim}
use Rattle.std.proofs.lemmas.List.Elements.{All-from_get_or}
use Rattle.std.proofs.lemmas.List.Sums.{get_or-le-sum_by}
use Rattle.bit_words.proofs.SetLemmas.{no_members}
use Rattle.pipeline_manager.specs.Conditions.{gives_up}
use Rattle.pipeline_manager.specs.Lives.{built_of}
use Rattle.pipeline_manager.specs.Sound.{FitsSlots, AreSoundLives}
use Rattle.pipeline_manager.specs.declared.life.Life.TheVariants as life

-- no query is built for
abbrev pub NoneIsBuilding : Lives → Type 0
NoneIsBuilding lives = (query : ℕ) → life_of lives query ≢ Some life.Building

-- where no filter may be built and no query may begin to run, none is built for
pub none-building : (lives : Lives) → ((query dimension : ℕ) → CanBuild query dimension lives → ⊥) → ((query : ℕ) → CanRun query lives → ⊥)
    → NoneIsBuilding lives
none-building lives no_build no_run query building = no_run query (record {
  building = building;
  all_built = λ dimension is_filter. ⊎_elim
      (λ built. built)
      (λ out. absurd (no_build query dimension (record { building = building; filters = is_filter; not_built = out })))
      (cases_eq (bit_at (built_of lives query) dimension) 1);
})

-- a query that holds a slot holds one at least
held-some : (lives : Lives) (slot query built : ℕ) → slot < length lives.slots → slot_at lives slot ≡ Held query built
    → 1 ≤ slots_held query lives.slots
held-some lives slot query built there holds =
    let weight : SlotState → ℕ = λ s. cond {A = ℕ} (is_held_by query s) 1 0 in
    let here : weight (slot_at lives slot) ≡ 1 = ap weight holds ∙ ap (λ b. cond {A = ℕ} b 1 0) (eq-eqb query query refl) in
    omega (arith, here, get_or-le-sum_by weight lives.slots slot Free there)

-- the holder of a slot that may not be taken from it is under way
under-way : (o : Option Life) (held : ℕ) → FitsSlots o held → 1 ≤ held → ¬ (IsTrue (option_map_or gives_up o false)) → IsSomeAnd o IsUnderWay
under-way (Some life.Building) held fits some stays = tt
under-way (Some (life.Running start left)) held fits some stays = tt
under-way (Some life.Ending) held fits some stays = absurd (stays refl)
under-way (Some life.Spoiled) held fits some stays = absurd (stays refl)
under-way (Some life.Abandoned) held fits some stays = absurd (stays refl)
under-way other held fits some stays = absurd (omega arith)

-- where no slot may be taken from its query, cleared or released, each is free, or its query is under way
pub slots-under-way : (lives : Lives) → AreSoundLives lives → ((slot : ℕ) → CanEnd slot lives → ⊥)
    → ((slot dimension : ℕ) → CanClear slot dimension lives → ⊥) → ((slot : ℕ) → CanFree slot lives → ⊥)
    → All (IsFreeOrUnderWay lives) lives.slots
slots-under-way lives sound no_end no_clear no_free =
    All-from_get_or (IsFreeOrUnderWay lives) lives.slots Free (λ slot low. by_state slot (slot_at lives slot) low refl)
  where
    cleared : (slot left : ℕ) → slot_at lives slot ≡ Clearing left → ⊥
    cleared slot left is =
        let none : left ≡ 0 = no_members left (λ dimension has. no_clear slot dimension
        (subst (λ state. IsToClear dimension state) (sym is) has)) in
        no_free slot (is ∙ ap Clearing none)

    by_state : (slot : ℕ) (state : SlotState) → slot < length lives.slots → slot_at lives slot ≡ state → IsFreeOrUnderWay lives state
    by_state slot Free low is = tt
    by_state slot (Held query built) low is =
        under-way (life_in lives.queries query) (slots_held query lives.slots) (sound.held query) (held-some lives slot query built low is)
        (λ over. no_end slot (subst (λ state. IsHolderOver state lives) (sym is) over))
    by_state slot (Clearing left) low is = absurd (cleared slot left is)

-- a query that is under way, and is not built for, runs
runs-on : (o : Option Life) → o ≢ Some life.Building → IsSomeAnd o IsUnderWay → IsSomeAnd o IsRunning
runs-on (Some life.Building) never on = absurd (never refl)
runs-on (Some (life.Running start left)) never on = tt
runs-on other never on = absurd on

-- where none is built for, each slot is free, or its query runs
pub slots-run : (lives : Lives) → NoneIsBuilding lives → All (IsFreeOrUnderWay lives) lives.slots → All (IsFreeOrRuns lives) lives.slots
slots-run lives none all = All-weaker (IsFreeOrUnderWay lives) (IsFreeOrRuns lives) by_state lives.slots all
  where
    by_state : (state : SlotState) → IsFreeOrUnderWay lives state → IsFreeOrRuns lives state
    by_state Free on = tt
    by_state (Held query built) on = runs-on (life_in lives.queries query) (none query) on
    by_state (Clearing left) on = absurd on

-- and where none runs, each slot is free
pub slots-free : (lives : Lives) → ((query : ℕ) → IsSomeAnd (life_of lives query) IsRunning → ⊥) → All (IsFreeOrRuns lives) lives.slots
    → All (λ slot. slot ≡ Free) lives.slots
slots-free lives none all = All-weaker (IsFreeOrRuns lives) (λ slot. slot ≡ Free) by_state lives.slots all
  where
    by_state : (state : SlotState) → IsFreeOrRuns lives state → state ≡ Free
    by_state Free runs = refl
    by_state (Held query built) runs = absurd (none query runs)
    by_state (Clearing left) runs = absurd runs

-- where all slots are free, no query holds one
held-none : (query : ℕ) (slots : List SlotState) → All (λ slot. slot ≡ Free) slots → slots_held query slots ≡ 0
held-none query [] free = refl
held-none query (slot ∷ slots) free =
    let rest = held-none query slots (All-tail (λ s. s ≡ Free) slot slots free) in
    let here : cond {A = ℕ} (is_held_by query slot) 1 0 ≡ 0 =
    ap (λ s. cond {A = ℕ} (is_held_by query s) 1 0) (All-head (λ s. s ≡ Free) slot slots free) in
    omega (arith, sum_by-cons (λ s. cond {A = ℕ} (is_held_by query s) 1 0) slot slots)

-- a query that holds no slot, and does not wait, is not open
not-open : (now : Life) → FitsSlots (Some now) 0 → is_waiting now ≡ false → is_open now ≡ false
not-open life.Waiting fits rests = absurd (let both : true ≡ false = rests in cc)
not-open life.Answered fits rests = refl
not-open life.Spoiled fits rests = refl
not-open life.Abandoned fits rests = refl
not-open other fits rests = absurd (omega arith)

-- where all slots are free and no query waits, none is open
pub none-open : (lives : Lives) → AreSoundLives lives → All (λ slot. slot ≡ Free) lives.slots → All (λ entry. is_waiting entry.life ≡ false) lives.queries
    → All (λ entry. is_open entry.life ≡ false) lives.queries
none-open lives sound free rest = λ place d low.
    let entry : QueryLife = get_or lives.queries place d in
    let found : query_in lives.queries entry.query ≡ Some entry =
    query_in-found lives.queries place entry.query d sound.rising low refl in
    not-open entry.life
    (subst (λ o. FitsSlots o 0) (ap (λ o. option_map (λ (e : QueryLife). e.life) o) found)
    (subst (FitsSlots (life_in lives.queries entry.query)) (held-none entry.query lives.slots free) (sound.held entry.query)))
    (rest place d low)
