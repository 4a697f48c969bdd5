-- What a cut makes of the lives of queries.
use Rattle.core_state.proofs.Words.{◌-◌, ◌∷◌, ◌≡◌, [], ap, Bool, cond, covered, cut_life, cut_query, eqb, false, gets_rows, IfSome, is_open, IsTrue, Life, life_in, List, map, MayBeOnRoster, None, Option, option_map, query_in, query_in-map, QueryLife, refl, Some, started, subst, sym, true, ℕ}
use Rattle.pipeline_manager.specs.declared.life.Life.TheVariants as life

-- what holds of a life that begins
pub started-by : (P : Life → Type 0) (start extent : ℕ) → P life.Ending → P (life.Running start extent) → P (started start extent)
started-by P start extent ends runs = by_test (eqb extent 0)
  where
    by_test : (t : Bool) → P (cond {A = Life} t life.Ending (life.Running start extent))
    by_test true = ends
    by_test false = runs

-- what a cut makes of a life: it stays, or a query that runs has less left, or ends
pub cut-cases : (P : Life → Life → Type 0) → ((now : Life) → P now now) → ((start left : ℕ) → P (life.Running start left) life.Ending)
    → ((start left less : ℕ) → P (life.Running start left) (life.Running start less)) → (positions : ℕ) (now : Life)
    → P now (cut_life positions now)
cut-cases P stays ends runs positions (life.Running start left) =
    started-by (P (life.Running start left)) start (left - positions) (ends start left) (runs start left (left - positions))
cut-cases P stays ends runs positions other = stays other

-- what is found of a query after a cut
pub cut-found : (P : QueryLife → Type 0) (first last : ℕ) (queries : List QueryLife) (query : ℕ)
    → ((entry : QueryLife) → query_in queries query ≡ Some entry → P (cut_query first last entry))
    → IfSome (query_in (map (cut_query first last) queries) query) P
cut-found P first last queries query each =
    subst (λ o. IfSome o P) (sym (query_in-map (cut_query first last) (λ entry. refl) queries query))
    (by_found (query_in queries query) refl)
  where
    by_found : (o : Option QueryLife) → query_in queries query ≡ o → IfSome (option_map (cut_query first last) o) P
    by_found None is = tt
    by_found (Some entry) is = each entry is

-- what holds of a life, and stays so in a cut
pub life-cut : (P : Life → Type 0) (first last : ℕ) (queries : List QueryLife) (query : ℕ)
    → ((positions : ℕ) (now : Life) → P now → P (cut_life positions now)) → IfSome (life_in queries query) P
    → IfSome (life_in (map (cut_query first last) queries) query) P
life-cut P first last queries query stays holds =
    subst (λ o. IfSome (option_map (λ e. e.life) o) P) (sym (query_in-map (cut_query first last) (λ entry. refl) queries query))
    (by_found (query_in queries query) holds)
  where
    by_found : (o : Option QueryLife) → IfSome (option_map (λ e. e.life) o) P
        → IfSome (option_map (λ e. e.life) (option_map (cut_query first last) o)) P
    by_found None h = tt
    by_found (Some entry) h = stays (covered first last entry.extent) entry.life h

-- who may be on a roster may be there after a cut
pub may-stay : (positions : ℕ) (now : Life) → MayBeOnRoster now → MayBeOnRoster (cut_life positions now)
may-stay = cut-cases (λ now later. MayBeOnRoster now → MayBeOnRoster later) (λ now h. h) (λ start left h. tt) (λ start left less h. tt)

-- the numbers stay in their order
pub same-numbers : (first last : ℕ) (queries : List QueryLife)
    → map (λ entry. entry.query) (map (cut_query first last) queries) ≡ map (λ entry. entry.query) queries
same-numbers first last [] = refl
same-numbers first last (entry ∷ queries) = ap (λ rest. entry.query ∷ rest) (same-numbers first last queries)

-- what is open after a cut was open
pub open-stays : (positions : ℕ) (now : Life) → IsTrue (is_open (cut_life positions now)) → IsTrue (is_open now)
open-stays =
    cut-cases (λ now later. IsTrue (is_open later) → IsTrue (is_open now)) (λ now h. h) (λ start left h. refl) (λ start left less h. refl)

-- what gets rows after a cut got rows
pub gets-stays : (positions : ℕ) (now : Life) → IsTrue (gets_rows (cut_life positions now)) → IsTrue (gets_rows now)
gets-stays =
    cut-cases (λ now later. IsTrue (gets_rows later) → IsTrue (gets_rows now)) (λ now h. h) (λ start left h. refl) (λ start left less h. refl)
