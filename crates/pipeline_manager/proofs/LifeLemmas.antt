-- What the life of each query is after a change.
use Rattle.std.proofs.Common.{◌≡◌, ℕ, zero, suc, Bool, true, false, cond, eqb, eq-eqb, List, [], ◌∷◌, ◌++◌, map, find, Option, Some, None, option_map, refl, ap, sym, ◌∙◌, arith}
use Rattle.std.proofs.lemmas.Bool.{ne_eqb, eqb-true}
use Rattle.pipeline_manager.specs.declared.life.Life.{Life}
use Rattle.pipeline_manager.specs.declared.life.Life.TheVariants.{Waiting, Building, Running, Ending, Answered, Spoiled, Abandoned}
use Rattle.pipeline_manager.specs.declared.life.QueryLife.{QueryLife}
use Rattle.pipeline_manager.specs.Lives.{query_in, life_in, is_waiting}
use Rattle.pipeline_manager.specs.Changes.{with_life, renewed, cut_life, cut_query, covered}
use Rattle.pipeline_manager.specs.Sound.{AreRising}
use Rattle.star_values.proofs.RisingLemmas.{IsMissing, head_is_only, tail_rises}
use Rattle.pipeline_manager.proofs.QueryLemmas.{query_in-missing}

-- another life leaves the number
pub renewed-number : (query : ℕ) (life : Life) (entry : QueryLife) → (renewed query life entry).query ≡ entry.query
renewed-number query life entry = by_test (eqb entry.query query) refl
  where
    by_test : (same : Bool) → same ≡ eqb entry.query query → (renewed query life entry).query ≡ entry.query
    by_test true e = rw (sym e) refl
    by_test false e = rw (sym e) refl

-- a change that leaves each number finds the changed query
pub query_in-map : (change : QueryLife → QueryLife) → ((entry : QueryLife) → (change entry).query ≡ entry.query)
    → (queries : List QueryLife) (query : ℕ) → query_in (map change queries) query ≡ option_map change (query_in queries query)
query_in-map change same [] query = refl
query_in-map change same (entry ∷ queries) query =
    ap (λ number. cond (eqb number query) (Some (change entry)) (query_in (map change queries) query)) (same entry)
    ∙ by_test (eqb entry.query query) (query_in-map change same queries query)
  where
    by_test : (found : Bool) → query_in (map change queries) query ≡ option_map change (query_in queries query)
        → cond found (Some (change entry)) (query_in (map change queries) query)
        ≡ option_map change (cond found (Some entry) (query_in queries query))
    by_test true rest = refl
    by_test false rest = rest

-- the query itself has the life that is written
pub life_in-same : (queries : List QueryLife) (query : ℕ) (life : Life)
    → life_in (with_life query life queries) query ≡ option_map (λ old. life) (life_in queries query)
life_in-same [] query life = refl
life_in-same (entry ∷ queries) query life = by_test (eqb entry.query query) refl (life_in-same queries query life)
  where
    by_test : (found : Bool) → found ≡ eqb entry.query query
        → life_in (with_life query life queries) query ≡ option_map (λ old. life) (life_in queries query)
        → life_in (with_life query life (entry ∷ queries)) query ≡ option_map (λ old. life) (life_in (entry ∷ queries) query)
    by_test true e rest = simp (sym e)
    by_test false e rest = simp (sym e) rest

-- every other query has the life that it had
pub life_in-other : (queries : List QueryLife) (query other : ℕ) (life : Life) → (other ≡ query → ⊥)
    → life_in (with_life query life queries) other ≡ life_in queries other
life_in-other [] query other life apart = refl
life_in-other (entry ∷ queries) query other life apart =
    by_test (eqb entry.query query) refl (life_in-other queries query other life apart)
  where
    by_other : (found : Bool) → life_in (with_life query life queries) other ≡ life_in queries other
        → option_map (λ e. e.life) (cond found (Some entry) (query_in (with_life query life queries) other))
        ≡ option_map (λ e. e.life) (cond found (Some entry) (query_in queries other))
    by_other true rest = refl
    by_other false rest = rest

    by_test : (found : Bool) → found ≡ eqb entry.query query
        → life_in (with_life query life queries) other ≡ life_in queries other
        → life_in (with_life query life (entry ∷ queries)) other ≡ life_in (entry ∷ queries) other
    by_test true e rest =
        let same : entry.query ≡ query = eqb-true entry.query query (sym e) in
        rw (sym e, ne_eqb entry.query other (λ equal. apart (sym equal ∙ same))) rest
    by_test false e rest = rw (sym e) (by_other (eqb entry.query other) rest)

-- a query behind all others is found by its number, which none of them has
pub query_in-push_same : (queries : List QueryLife) (entry : QueryLife) → IsMissing (λ (e : QueryLife). e.query) entry.query queries
    → query_in (queries ++ entry ∷ []) entry.query ≡ Some entry
query_in-push_same [] entry missing = rw (eq-eqb entry.query entry.query refl) refl
query_in-push_same (first ∷ queries) entry missing =
    rw (ne_eqb first.query entry.query (missing zero first (omega arith)))
    (query_in-push_same queries entry (λ k d within. missing (suc k) d (omega arith)))

-- every other query is found as before
pub query_in-push_other : (queries : List QueryLife) (entry : QueryLife) (other : ℕ) → (other ≡ entry.query → ⊥)
    → query_in (queries ++ entry ∷ []) other ≡ query_in queries other
query_in-push_other [] entry other apart = rw (ne_eqb entry.query other (λ equal. apart (sym equal))) refl
query_in-push_other (first ∷ queries) entry other apart =
    ap (λ rest. cond (eqb first.query other) (Some first) rest) (query_in-push_other queries entry other apart)

-- a life that is known by its test
waiting-is : (life : Life) → is_waiting life ≡ true → life ≡ Waiting
waiting-is Waiting waits = refl
waiting-is other waits = cc

-- the life of what waits is Waiting
pub oldest-waits : (queries : List QueryLife) (query : ℕ) → AreRising queries
    → option_map (λ entry. entry.query) (find (λ entry. is_waiting entry.life) queries) ≡ Some query
    → life_in queries query ≡ Some Waiting
oldest-waits [] query rising oldest = cc
oldest-waits (entry ∷ queries) query rising oldest =
    by_test (is_waiting entry.life) refl (oldest-waits queries query (tail_rises (λ (e : QueryLife). e.query) entry queries rising))
  where
    by_test : (waits : Bool) → waits ≡ is_waiting entry.life
        → (option_map (λ e. e.query) (find (λ e. is_waiting e.life) queries) ≡ Some query → life_in queries query ≡ Some Waiting)
        → life_in (entry ∷ queries) query ≡ Some Waiting
    by_test true e behind =
        let first : Some entry.query ≡ Some query = rw (sym e) at oldest in
        let same : entry.query ≡ query = cc in
        rw (eq-eqb entry.query query same) (ap Some (waiting-is entry.life (sym e)))
    by_test false e behind =
        let later : life_in queries query ≡ Some Waiting = behind (rw (sym e) at oldest) in
        let apart : entry.query ≡ query → ⊥ = λ same.
        let none = query_in-missing queries query (head_is_only (λ (e : QueryLife). e.query) entry queries query rising same) in
        let nothing : life_in queries query ≡ None = ap (option_map (λ e. e.life)) none in cc in
        rw (ne_eqb entry.query query apart) later

-- after a cut each query has its life cut
pub life_in-cut : (first last : ℕ) (queries : List QueryLife) (query : ℕ)
    → life_in (map (cut_query first last) queries) query
    ≡ option_map (λ entry. cut_life (covered first last entry.extent) entry.life) (query_in queries query)
life_in-cut first last queries query =
    ap (option_map (λ entry. entry.life)) (query_in-map (cut_query first last) (λ entry. refl) queries query)
    ∙ by_query (query_in queries query)
  where
    by_query : (entry : Option QueryLife) → option_map (λ e. e.life) (option_map (cut_query first last) entry)
        ≡ option_map (λ e. cut_life (covered first last e.extent) e.life) entry
    by_query None = refl
    by_query (Some entry) = refl
