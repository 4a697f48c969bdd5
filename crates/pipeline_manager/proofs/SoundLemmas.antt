-- The parts of what holds of all lives and slots, at a change of one life or one slot.
use Rattle.std.proofs.Common.{◌≡◌, ℕ, ◌<◌, ◌≤◌, ◌+◌, ◌-◌, Bool, true, false, cond, eqb, List, length, get_or, set, map, Option, Some, None, option_map, refl, ap, sym, ◌∙◌, arith, subst}
use Rattle.std.specs.List.{All}
use Rattle.std.proofs.lemmas.Bool.{eqb-true, eqb-false}
use Rattle.std.proofs.lemmas.List.{length-map, length-set, get_or-map}
use Rattle.std.proofs.lemmas.List.Elements.{All-set}
use Rattle.std.proofs.lemmas.List.Sums.{sum_by-set}
use Rattle.pipeline_manager.specs.declared.life.Life.{Life}
use Rattle.pipeline_manager.specs.declared.life.Life.TheVariants.{Waiting, Building, Running, Ending, Answered, Spoiled, Abandoned}
use Rattle.pipeline_manager.specs.declared.life.SlotState.{SlotState}
use Rattle.pipeline_manager.specs.declared.life.SlotState.TheVariants.{Free}
use Rattle.pipeline_manager.specs.declared.life.QueryLife.{QueryLife}
use Rattle.pipeline_manager.specs.Lives.{Lives, query_in, life_in, is_held_by}
use Rattle.pipeline_manager.specs.Changes.{with_life, with_slot, renewed, cut_life, started}
use Rattle.pipeline_manager.specs.Sound.{FitsSlots, AreRising, IsLeft, IsOfFilters, AreSoundLives, slots_held}
use Rattle.pipeline_manager.proofs.QueryLemmas.{query_in-found}
use Rattle.pipeline_manager.proofs.LifeLemmas.{renewed-number, life_in-same, life_in-other}

-- something is left of the query, if it is Running
abbrev pub IsLeftOf : QueryLife → Type 0
IsLeftOf entry = IsLeft entry.extent entry.life

-- the numbers rise as before where each query keeps its own
pub rising-map : (change : QueryLife → QueryLife) (queries : List QueryLife)
    → ((entry : QueryLife) → (change entry).query ≡ entry.query) → AreRising queries → AreRising (map change queries)
rising-map change queries same rising = λ j k d low within.
    let many : length (map change queries) ≡ length queries = length-map queries change in
    let lower : (get_or (map change queries) j d).query ≡ (get_or queries j d).query =
    ap (λ entry. entry.query) (get_or-map change queries j d d (omega arith)) ∙ same (get_or queries j d) in
    let upper : (get_or (map change queries) k d).query ≡ (get_or queries k d).query =
    ap (λ entry. entry.query) (get_or-map change queries k d d (omega arith)) ∙ same (get_or queries k d) in
    let before = rising j k d low (omega arith) in
    omega arith

pub rising-with_life : (query : ℕ) (life : Life) (queries : List QueryLife) → AreRising queries → AreRising (with_life query life queries)
rising-with_life query life queries = rising-map (renewed query life) queries (renewed-number query life)

-- a query that begins to run holds one slot
pub fits-started : (start extent held : ℕ) → held ≡ 1 → FitsSlots (Some (started start extent)) held
fits-started start extent held one = by_test (eqb extent 0) refl
  where
    by_test : (none : Bool) → none ≡ eqb extent 0 → FitsSlots (Some (started start extent)) held
    by_test true e = rw (sym e) (omega arith, omega arith)
    by_test false e = rw (sym e) (omega arith, omega arith)

-- a query holds as many slots after a cut as before
pub fits-cut_life : (positions : ℕ) (life : Life) (held : ℕ) → FitsSlots (Some life) held → FitsSlots (Some (cut_life positions life)) held
fits-cut_life positions (Running start left) held fits = fits-started start (left - positions) held (omega arith)
fits-cut_life positions other held fits = fits

-- no query holds two slots
pub fits-one : (life : Option Life) (held : ℕ) → FitsSlots life held → held ≤ 1
fits-one (Some Waiting) held fits = omega arith
fits-one other held fits = omega arith

-- where a life is written that fits what the query holds, each query holds as many slots as its life says
pub fits-with_life : (queries : List QueryLife) (query : ℕ) (life : Life) (other held : ℕ)
    → ((old : Life) → life_in queries query ≡ Some old → FitsSlots (Some old) held → FitsSlots (Some life) held)
    → FitsSlots (life_in queries other) held → FitsSlots (life_in (with_life query life queries) other) held
fits-with_life queries query life other held step fits = by_number (eqb other query) refl
  where
    by_life : (old : Option Life) → life_in queries query ≡ old → FitsSlots old held → FitsSlots (option_map (λ o. life) old) held
    by_life None e kept = kept
    by_life (Some old) e kept = step old e kept

    by_number : (same : Bool) → same ≡ eqb other query → FitsSlots (life_in (with_life query life queries) other) held
    by_number true e =
        let equal : other ≡ query = eqb-true other query (sym e) in
        subst (λ k. FitsSlots (life_in (with_life query life queries) k) held) (sym equal)
        (subst (λ o. FitsSlots o held) (sym (life_in-same queries query life))
        (by_life (life_in queries query) refl (subst (λ k. FitsSlots (life_in queries k) held) equal fits)))
    by_number false e =
        subst (λ o. FitsSlots o held) (sym (life_in-other queries query other life (eqb-false other query (sym e)))) fits

-- of a query that begins to run its extent is left
pub left-started : (start left extent : ℕ) → left ≤ extent → IsLeft extent (started start left)
left-started start left extent within = by_test (eqb left 0) refl
  where
    by_test : (none : Bool) → none ≡ eqb left 0 → IsLeft extent (started start left)
    by_test true e = rw (sym e) tt
    by_test false e = let some = eqb-false left 0 (sym e) in rw (sym e) (omega arith, within)

-- after a cut something is left of what is Running
pub left-cut_life : (positions extent : ℕ) (life : Life) → IsLeft extent life → IsLeft extent (cut_life positions life)
left-cut_life positions extent (Running start rest) left = left-started start (rest - positions) extent (omega arith)
left-cut_life positions extent other left = tt

left-renewed : (query : ℕ) (life : Life) (entry : QueryLife) → (entry.query ≡ query → IsLeft entry.extent life)
    → IsLeftOf entry → IsLeftOf (renewed query life entry)
left-renewed query life entry written kept = by_test (eqb entry.query query) refl
  where
    by_test : (same : Bool) → same ≡ eqb entry.query query → IsLeftOf (renewed query life entry)
    by_test true e = rw (sym e) (written (eqb-true entry.query query (sym e)))
    by_test false e = rw (sym e) kept

pub left-with_life : (queries : List QueryLife) (query : ℕ) (life : Life) → AreRising queries
    → ((entry : QueryLife) → query_in queries query ≡ Some entry → IsLeft entry.extent life) → All IsLeftOf queries
    → All IsLeftOf (with_life query life queries)
left-with_life queries query life rising written left = λ k d within.
    let many : length (with_life query life queries) ≡ length queries = length-map queries (renewed query life) in
    let inside : k < length queries = omega arith in
    subst IsLeftOf (sym (get_or-map (renewed query life) queries k d d inside))
    (left-renewed query life (get_or queries k d)
    (λ same. written (get_or queries k d) (query_in-found queries k query d rising inside same)) (left k d inside))

-- a life that fits what the query holds may be written
pub sound-with_life : (query : ℕ) (life : Life) (lives : Lives)
    → ((old : Life) (held : ℕ) → life_in lives.queries query ≡ Some old → FitsSlots (Some old) held → FitsSlots (Some life) held)
    → ((entry : QueryLife) → query_in lives.queries query ≡ Some entry → IsLeft entry.extent life) → AreSoundLives lives
    → AreSoundLives (record lives { queries = with_life query life lives.queries })
sound-with_life query life lives fits written sound = record {
  rising = rising-with_life query life lives.queries sound.rising;
  some = sound.some;
  few = sound.few;
  held = λ other. fits-with_life lives.queries query life other (slots_held other lives.slots)
      (λ old. fits old (slots_held other lives.slots)) (sound.held other);
  left = left-with_life lives.queries query life sound.rising written sound.left;
  of_filters = sound.of_filters;
}

-- how many slots a query holds after one is written
pub slots_held-set : (query : ℕ) (slots : List SlotState) (slot : ℕ) (state : SlotState) → slot < length slots
    → slots_held query (set slots slot state) + cond (is_held_by query (get_or slots slot Free)) 1 0
    ≡ slots_held query slots + cond (is_held_by query state) 1 0
slots_held-set query slots slot state within = sum_by-set (λ s. cond (is_held_by query s) 1 0) slots slot state Free within

-- a state of the same holder may be written, if its bits are those of filters
pub sound-with_slot : (slot : ℕ) (state : SlotState) (lives : Lives) → slot < length lives.slots
    → ((query : ℕ) → is_held_by query state ≡ is_held_by query (get_or lives.slots slot Free))
    → IsOfFilters lives.filters state → AreSoundLives lives → AreSoundLives (with_slot slot state lives)
sound-with_slot slot state lives within same bits sound =
    let many : length (set lives.slots slot state) ≡ length lives.slots = length-set lives.slots slot state in
    let some = sound.some in
    let few = sound.few in
    record {
      rising = sound.rising;
      some = omega arith;
      few = omega arith;
      held = λ query.
          let count = slots_held-set query lives.slots slot state within in
          let one : cond {A = ℕ} (is_held_by query state) 1 0 ≡ cond {A = ℕ} (is_held_by query (get_or lives.slots slot Free)) 1 0 =
          ap (λ b. cond {A = ℕ} b 1 0) (same query) in
          let equal : slots_held query lives.slots ≡ slots_held query (set lives.slots slot state) = omega arith in
          subst (FitsSlots (life_in lives.queries query)) equal (sound.held query);
      left = sound.left;
      of_filters = All-set (IsOfFilters lives.filters) lives.slots slot state bits sound.of_filters;
    }
