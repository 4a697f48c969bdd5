-- A cut that goes over the slots reaches each Running query once.
use Rattle.std.proofs.Common.{◌≡◌, ℕ, ◌<◌, ◌≤◌, ◌+◌, Bool, true, false, cond, eqb, ltb, eq-eqb, List, [], ◌∷◌, length, get_or, take, map, Some, option_map, refl, ap, sym, ◌∙◌, arith, subst}
use Rattle.std.proofs.lemmas.Bool.{eqb-true, eqb-false, ne_eqb, ltb-false, lt-ltb, le-ltb}
use Rattle.std.proofs.lemmas.List.{length-map, get_or-map, same_lists}
use Rattle.std.proofs.lemmas.List.Sums.{count_by_more_yes, count_by_more_no, sum_by_more_le}
use Rattle.pipeline_manager.specs.declared.life.Life.{Life}
use Rattle.pipeline_manager.specs.declared.life.Life.TheVariants.{Waiting, Building, Running, Ending, Answered, Spoiled, Abandoned}
use Rattle.pipeline_manager.specs.declared.life.SlotState.{SlotState}
use Rattle.pipeline_manager.specs.declared.life.SlotState.TheVariants.{Free, Held, Clearing}
use Rattle.pipeline_manager.specs.declared.life.QueryLife.{QueryLife}
use Rattle.pipeline_manager.specs.Lives.{life_in, is_held_by}
use Rattle.pipeline_manager.specs.Changes.{cut_query, cut_life, covered}
use Rattle.pipeline_manager.specs.Inside.{changed_if}
use Rattle.pipeline_manager.specs.LetGo.{cut_held}
use Rattle.pipeline_manager.specs.Sound.{FitsSlots, AreRising, slots_held}
use Rattle.pipeline_manager.proofs.QueryLemmas.{query_in-found}

-- the same change at each query is the same list
map-same : (change other : QueryLife → QueryLife) (queries : List QueryLife) → ((entry : QueryLife) → change entry ≡ other entry)
    → map change queries ≡ map other queries
map-same change other [] same = refl
map-same change other (entry ∷ queries) same =
    ap (λ e. e ∷ map change queries) (same entry) ∙ ap (λ rest. other entry ∷ rest) (map-same change other queries same)

map-map : (first second : QueryLife → QueryLife) (queries : List QueryLife)
    → map second (map first queries) ≡ map (λ entry. second (first entry)) queries
map-map first second [] = refl
map-map first second (entry ∷ queries) = ap (λ rest. second (first entry) ∷ rest) (map-map first second queries)

-- before any slot no query is cut
pub cut_held-none : (first last : ℕ) (queries : List QueryLife) → map (cut_held first last []) queries ≡ queries
cut_held-none first last [] = refl
cut_held-none first last (entry ∷ queries) = ap (λ rest. entry ∷ rest) (cut_held-none first last queries)

-- a slot that no query holds cuts none
unheld-more : (first last : ℕ) (slots : List SlotState) (i : ℕ) (d : SlotState) → i < length slots
    → (entry : QueryLife) → is_held_by entry.query (get_or slots i d) ≡ false
    → cut_held first last (take i slots) entry ≡ cut_held first last (take (i + 1) slots) entry
unheld-more first last slots i d within entry other =
    let same : slots_held entry.query (take (i + 1) slots) ≡ slots_held entry.query (take i slots) =
    count_by_more_no (is_held_by entry.query) slots i d within other in
    ap (λ n. cond (ltb 0 n) (cut_query first last entry) entry) (sym same)

pub cut_held-unheld : (first last : ℕ) (queries : List QueryLife) (slots : List SlotState) (i : ℕ) (d : SlotState) → i < length slots
    → ((query : ℕ) → is_held_by query (get_or slots i d) ≡ false)
    → map (cut_held first last (take i slots)) queries ≡ map (cut_held first last (take (i + 1) slots)) queries
cut_held-unheld first last queries slots i d within none =
    map-same (cut_held first last (take i slots)) (cut_held first last (take (i + 1) slots)) queries
    (λ entry. unheld-more first last slots i d within entry (none entry.query))

-- the holder of the next slot, which holds none before it, is cut
holder-more : (first last : ℕ) (slots : List SlotState) (i : ℕ) (d : SlotState) (query built : ℕ) → i < length slots
    → get_or slots i d ≡ Held query built → slots_held query slots ≤ 1 → (entry : QueryLife)
    → changed_if query (cut_query first last) (cut_held first last (take i slots) entry) ≡ cut_held first last (take (i + 1) slots) entry
holder-more first last slots i d query built within holds one entry = by_number (eqb entry.query query) refl
  where
    number : (t : Bool) → (cond t (cut_query first last entry) entry).query ≡ entry.query
    number true = refl
    number false = refl

    by_number : (same : Bool) → same ≡ eqb entry.query query
        → changed_if query (cut_query first last) (cut_held first last (take i slots) entry) ≡ cut_held first last (take (i + 1) slots) entry
    by_number true e =
        let equal : entry.query ≡ query = eqb-true entry.query query (sym e) in
        let held : is_held_by entry.query (get_or slots i d) ≡ true = rw holds (eq-eqb query entry.query (sym equal)) in
        let more : slots_held entry.query (take (i + 1) slots) ≡ slots_held entry.query (take i slots) + 1 =
        count_by_more_yes (is_held_by entry.query) slots i d within held in
        let all : slots_held entry.query (take i slots) + cond {A = ℕ} (is_held_by entry.query (get_or slots i d)) 1 0 ≤ slots_held entry.query slots =
        sum_by_more_le (λ s. cond {A = ℕ} (is_held_by entry.query s) 1 0) slots i d within in
        let counted = rw held at all in
        let few : slots_held entry.query slots ≤ 1 = subst (λ k. slots_held k slots ≤ 1) (sym equal) one in
        rw (
          le-ltb 0 (slots_held entry.query (take i slots)) (omega arith),
          lt-ltb 0 (slots_held entry.query (take (i + 1) slots)) (omega arith),
          sym e,
        ) refl
    by_number false e =
        let apart : is_held_by entry.query (get_or slots i d) ≡ false =
        rw holds (ne_eqb query entry.query (λ equal. eqb-false entry.query query (sym e) (sym equal))) in
        let before = number (ltb 0 (slots_held entry.query (take i slots))) in
        let skipped : changed_if query (cut_query first last) (cut_held first last (take i slots) entry) ≡ cut_held first last (take i slots) entry =
        ap (λ t. cond t (cut_query first last (cut_held first last (take i slots) entry)) (cut_held first last (take i slots) entry))
        (ap (λ k. eqb k query) before ∙ sym e) in
        skipped ∙ unheld-more first last slots i d within entry apart

pub cut_held-more : (first last : ℕ) (queries : List QueryLife) (slots : List SlotState) (i : ℕ) (d : SlotState) (query built : ℕ)
    → i < length slots → get_or slots i d ≡ Held query built → slots_held query slots ≤ 1
    → map (changed_if query (cut_query first last)) (map (cut_held first last (take i slots)) queries)
    ≡ map (cut_held first last (take (i + 1) slots)) queries
cut_held-more first last queries slots i d query built within holds one =
    map-map (cut_held first last (take i slots)) (changed_if query (cut_query first last)) queries
    ∙ map-same (λ entry. changed_if query (cut_query first last) (cut_held first last (take i slots) entry)) (cut_held first last (take (i + 1) slots)) queries
    (holder-more first last slots i d query built within holds one)

-- a cut leaves what holds no slot
cut_query-unheld : (first last : ℕ) (entry : QueryLife) → FitsSlots (Some entry.life) 0 → entry ≡ cut_query first last entry
cut_query-unheld first last entry fits = ap (λ life. record entry { life = life }) (by_life (covered first last entry.extent) entry.life fits)
  where
    by_life : (positions : ℕ) (life : Life) → FitsSlots (Some life) 0 → life ≡ cut_life positions life
    by_life positions Waiting kept = refl
    by_life positions Building kept = refl
    by_life positions (Running start left) kept = absurd (omega arith)
    by_life positions Ending kept = refl
    by_life positions Answered kept = refl
    by_life positions Spoiled kept = refl
    by_life positions Abandoned kept = refl

-- after all slots each query is cut
pub cut_held-all : (first last : ℕ) (queries : List QueryLife) (slots : List SlotState) → AreRising queries
    → ((query : ℕ) → FitsSlots (life_in queries query) (slots_held query slots))
    → map (cut_held first last slots) queries ≡ map (cut_query first last) queries
cut_held-all first last queries slots rising fits =
    same_lists (map (cut_held first last slots) queries) (map (cut_query first last) queries)
    (length-map queries (cut_held first last slots) ∙ sym (length-map queries (cut_query first last)))
    (λ k d within.
    let many : length (map (cut_held first last slots) queries) ≡ length queries = length-map queries (cut_held first last slots) in
    let inside : k < length queries = omega arith in
    get_or-map (cut_held first last slots) queries k d d inside
    ∙ by_test (get_or queries k d) (ltb 0 (slots_held (get_or queries k d).query slots)) refl
    (subst (λ o. FitsSlots o (slots_held (get_or queries k d).query slots))
    (ap (option_map (λ e. e.life)) (query_in-found queries k (get_or queries k d).query d rising inside refl))
    (fits (get_or queries k d).query))
    ∙ sym (get_or-map (cut_query first last) queries k d d inside))
  where
    by_test : (entry : QueryLife) (held : Bool) → held ≡ ltb 0 (slots_held entry.query slots)
        → FitsSlots (Some entry.life) (slots_held entry.query slots)
        → cut_held first last slots entry ≡ cut_query first last entry
    by_test entry true e kept = rw (sym e) refl
    by_test entry false e kept =
        let none : slots_held entry.query slots ≡ 0 = let less = ltb-false 0 (slots_held entry.query slots) (sym e) in omega arith in
        rw (sym e) (cut_query-unheld first last entry (subst (FitsSlots (Some entry.life)) none kept))

-- a cut that has come so far leaves each number
pub cut_held-number : (first last : ℕ) (slots : List SlotState) (entry : QueryLife) → (cut_held first last slots entry).query ≡ entry.query
cut_held-number first last slots entry = by_test (ltb 0 (slots_held entry.query slots))
  where
    by_test : (held : Bool) → (cond held (cut_query first last entry) entry).query ≡ entry.query
    by_test true = refl
    by_test false = refl

-- a state that is not Held is held by no query
pub unheld : (state : SlotState) → ((query built : ℕ) → state ≡ Held query built → ⊥) → (query : ℕ) → is_held_by query state ≡ false
unheld Free other query = refl
unheld (Held holder built) other query = absurd (other holder built refl)
unheld (Clearing left) other query = refl
