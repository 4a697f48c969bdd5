-- Where each slot is free or held by a query that is built for or runs, there are enough for those that wait.
use Rattle.core_driver.proofs.Words.{◌+◌, ◌∙◌, ◌∷◌, ◌≡◌, ◌≤◌, [], All, ap, arith, Bool, Clearing, cond, count_by, eq-eqb, eqb, false, find, Free, get_or, HasSlotsForAll, Held, is_free, is_held_by, is_unfinished, is_waiting, IsFreeOrUnderWay, IsSomeAnd, IsUnderWay, length, Life, life_in, List, list_any, Lives, None, not, Option, option_map, query_in, QueryLife, refl, slots_held, SlotState, Some, State, sym, true, unfinished_in}
use Rattle.std.proofs.Common.{◌&&◌}
use Rattle.std.proofs.lemmas.Bool.{and_from, or_left, or_right}
use Rattle.pipeline_manager.specs.Sound as managed
use Rattle.pipeline_manager.specs.declared.life.Life.TheVariants as life
use Rattle.pipeline_manager.proofs.SoundLemmas.{fits-one}
use Rattle.core_state.proofs.FoundLemmas.{query_in-number}
use Rattle.core_driver.proofs.LapCountLemmas.{count-both, count-held, count-le, count-none, one_if}

-- whether a query is built for or runs
abbrev is_under_way : Life → Bool
is_under_way life.Building = true
is_under_way (life.Running start left) = true
is_under_way other = false

-- what is built for or runs passes
under-way : (now : Life) → IsUnderWay now → is_under_way now ≡ true
under-way life.Building is = refl
under-way (life.Running start left) is = refl
under-way other is = absurd is

-- a query that is built for or runs holds the slot
abbrev holds : QueryLife → SlotState → Bool
holds entry slot = is_under_way entry.life && is_held_by entry.query slot

-- each query holds one slot at most, and none unless it is built for or runs
held-one : (lives : Lives) → managed.AreSoundLives lives → (entry : QueryLife) → count_by (holds entry) lives.slots ≤ one_if (is_under_way entry.life)
held-one lives sound entry = by_test (is_under_way entry.life)
  where
    by_test : (t : Bool) → count_by (λ slot. t && is_held_by entry.query slot) lives.slots ≤ one_if t
    by_test true = fits-one (life_in lives.queries entry.query) (slots_held entry.query lives.slots) (sound.held entry.query)
    by_test false = let none = count-none lives.slots in omega arith

-- what is found passes a test that it makes pass
any-found : {X : Type 0} (p q : X → Bool) (xs : List X) (x : X) → find p xs ≡ Some x → q x ≡ true → list_any q xs ≡ true
any-found p q [] x found passes = cc
any-found {X = X} p q (y ∷ xs) x found passes = by_test (p y) found (any-found p q xs x)
  where
    by_test : (t : Bool) → cond {A = Option X} t (Some y) (find p xs) ≡ Some x → (find p xs ≡ Some x → q x ≡ true → list_any q xs ≡ true)
        → list_any q (y ∷ xs) ≡ true
    by_test true e behind = let same : y ≡ x = cc in or_left (q y) (list_any q xs) (ap q same ∙ passes)
    by_test false e behind = or_right (q y) (list_any q xs) (behind e passes)

-- a slot that is not free is held by one of the queries
used-held : (lives : Lives) (slot : SlotState) → IsFreeOrUnderWay lives slot → not (is_free slot) ≡ true
    → list_any (λ entry. holds entry slot) lives.queries ≡ true
used-held lives Free allowed uses = cc
used-held lives (Held query built) allowed uses = by_found (query_in lives.queries query) refl allowed
  where
    by_found : (o : Option QueryLife) → query_in lives.queries query ≡ o → IsSomeAnd (option_map (λ entry. entry.life) o) IsUnderWay
        → list_any (λ entry. holds entry (Held query built)) lives.queries ≡ true
    by_found None found admits = absurd admits
    by_found (Some entry) found admits =
        let number : entry.query ≡ query = query_in-number lives.queries query entry found in
        any-found (λ other. eqb other.query query) (λ other. holds other (Held query built)) lives.queries entry found
        (and_from (is_under_way entry.life) (eqb query entry.query) (under-way entry.life admits) (eq-eqb query entry.query (sym number)))
used-held lives (Clearing left) allowed uses = absurd allowed

-- a query that is unfinished waits, or is built for or runs
unfinished-both : (now : Life) → one_if (is_unfinished now) ≡ one_if (is_waiting now) + one_if (is_under_way now)
unfinished-both life.Waiting = refl
unfinished-both other = refl

-- the slots that are not free are no more than the queries that are built for or run
pub slots-for-all : (state : State) → managed.AreSoundLives state.lives → All (IsFreeOrUnderWay state.lives) state.lives.slots
    → unfinished_in state ≤ length state.lives.slots → HasSlotsForAll state
slots-for-all state sound allowed few =
    let both = count-both (λ entry. is_waiting entry.life) (λ entry. is_under_way entry.life) (λ entry. is_unfinished entry.life)
    (λ entry. unfinished-both entry.life) state.lives.queries in
    let held = count-held holds (λ entry. is_under_way entry.life) state.lives.queries state.lives.slots
    (λ k d low. held-one state.lives sound (get_or state.lives.queries k d)) in
    let used = count-le (λ slot. not (is_free slot)) (λ slot. list_any (λ entry. holds entry slot) state.lives.queries) state.lives.slots
    (λ k d low. used-held state.lives (get_or state.lives.slots k d) (allowed k d low)) in
    omega arith
