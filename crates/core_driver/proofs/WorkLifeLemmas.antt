-- What is to be cut and to be done for queries, where one has another life, or a batch is cut.
use Rattle.core_driver.proofs.Words.{◌+◌, ◌-◌, ◌<◌, ◌∷◌, ◌≡◌, ◌≤◌, [], after_spoil, all_to_cut, ap, AreRising, arith, Bool, cond, covered, cut_life, cut_query, eqb, eqb-true, extent_in, false, fold, get_or, is_ending, length, Life, life_in, List, Lives, map, None, Option, option_map, option_map_or, query_in, QueryLife, refl, renewed, Some, started, subst, sum_by, sym, true, with_answer, with_life, ℕ}
use Rattle.pipeline_manager.specs.declared.life.Life.TheVariants as life
use Rattle.core_driver.specs.Work.{steps_to_run, to_cut}
use Rattle.core_driver.proofs.SumLemmas.{sum-changed, sum-less, sum-same, sum-written}

-- the most steps until all queries run
abbrev pub steps_in : List QueryLife → ℕ
steps_in queries = sum_by (λ entry. steps_to_run entry.life) queries

-- a query that has a life is in the list
pub record IsIn (queries : List QueryLife) (query : ℕ) (now : Life) : Type 0 where
  pub entry : QueryLife
  pub found : query_in queries query ≡ Some entry
  pub life : entry.life ≡ now

-- the life tells where it is
pub is-in : (queries : List QueryLife) (query : ℕ) (now : Life) → life_in queries query ≡ Some now → IsIn queries query now
is-in queries query now was = by_found (query_in queries query) refl was
  where
    by_found : (o : Option QueryLife) → query_in queries query ≡ o → option_map (λ e. e.life) o ≡ Some now → IsIn queries query now
    by_found None found is = absurd (let both : None ≡ Some now = is in cc)
    by_found (Some entry) found is = record { entry = entry; found = found; life = let same : entry.life ≡ now = cc in same }

-- where one query has another life, what is to be cut and to be done changes by what is for that query
pub record WritesOver (extent : ℕ) (old new : Life) (queries now : List QueryLife) : Type 0 where
  pub cut : all_to_cut now + to_cut extent old ≡ all_to_cut queries + to_cut extent new
  pub steps : steps_in now + steps_to_run old ≡ steps_in queries + steps_to_run new

-- another life of one query
pub written-over : (query : ℕ) (old new : Life) (queries : List QueryLife) → AreRising queries → life_in queries query ≡ Some old
    → WritesOver (extent_in queries query) old new queries (with_life query new queries)
written-over query old new queries rising was =
    subst (λ n. WritesOver n old new queries (with_life query new queries)) (sym extent)
    (subst (λ before. WritesOver there.entry.extent before new queries (with_life query new queries)) there.life (record {
      cut = sum-written (λ e. to_cut e.extent e.life) query new queries there.entry rising there.found;
      steps = sum-written (λ e. steps_to_run e.life) query new queries there.entry rising there.found;
    }))
  where
    there : IsIn queries query old
    there = is-in queries query old was

    extent : extent_in queries query ≡ there.entry.extent
    extent = ap (λ o. option_map_or (λ e. e.extent) o 0) there.found

-- no more is to be cut and to be done
pub record IsNoMore (queries now : List QueryLife) : Type 0 where
  pub cut : all_to_cut now ≤ all_to_cut queries
  pub steps : steps_in now ≤ steps_in queries

-- nothing is to be cut and to be done for a query with this life
pub record IsDone (now : Life) : Type 0 where
  pub cut : (extent : ℕ) → to_cut extent now ≡ 0
  pub steps : steps_to_run now ≡ 0

-- one that found no memory
pub spoiled-done : IsDone life.Spoiled
spoiled-done = record { cut = λ extent. refl; steps = refl }

-- one that is answered
answered-done : IsDone life.Answered
answered-done = record { cut = λ extent. refl; steps = refl }

-- where a query is done, no more is to do
pub no-more-written : (query : ℕ) (new : Life) (queries : List QueryLife) → IsDone new → IsNoMore queries (with_life query new queries)
no-more-written query new queries done = record {
  cut = sum-changed (λ e. to_cut e.extent e.life) (renewed query new) queries (λ e. cut_less e (eqb e.query query));
  steps = sum-changed (λ e. steps_to_run e.life) (renewed query new) queries (λ e. steps_less e (eqb e.query query));
}
  where
    cut_of : QueryLife → ℕ
    cut_of entry = to_cut entry.extent entry.life

    cut_less : (e : QueryLife) (t : Bool) → cut_of (cond {A = QueryLife} t (record e { life = new }) e) ≤ cut_of e
    cut_less e true = let none = done.cut e.extent in let less : to_cut e.extent new ≤ to_cut e.extent e.life = omega arith in less
    cut_less e false = let same : to_cut e.extent e.life ≤ to_cut e.extent e.life = omega arith in same

    steps_of : QueryLife → ℕ
    steps_of entry = steps_to_run entry.life

    steps_less : (e : QueryLife) (t : Bool) → steps_of (cond {A = QueryLife} t (record e { life = new }) e) ≤ steps_of e
    steps_less e true = let none = done.steps in let less : steps_to_run new ≤ steps_to_run e.life = omega arith in less
    steps_less e false = let same : steps_to_run e.life ≤ steps_to_run e.life = omega arith in same

-- nor where nothing changes
no-more-stays : (queries : List QueryLife) → IsNoMore queries queries
no-more-stays queries = record { cut = omega arith; steps = omega arith }

-- nor where queries find no memory
pub no-more-spoiled : (spoiled : List ℕ) (lives : Lives)
    → IsNoMore lives.queries (fold (λ now query. after_spoil query now) lives spoiled).queries
no-more-spoiled [] lives = no-more-stays lives.queries
no-more-spoiled (query ∷ spoiled) lives =
    let here = no-more-written query life.Spoiled lives.queries spoiled-done in
    let rest = no-more-spoiled spoiled (after_spoil query lives) in
    record { cut = omega (arith, here.cut, rest.cut); steps = omega (arith, here.steps, rest.steps) }

-- nor where a query is answered, if it was to be
pub no-more-answered : (query : ℕ) (queries : List QueryLife) → IsNoMore queries (with_answer query queries)
no-more-answered query queries = by_test (option_map_or is_ending (life_in queries query) false)
  where
    by_test : (t : Bool) → IsNoMore queries (cond {A = List QueryLife} t (with_life query life.Answered queries) queries)
    by_test true = no-more-written query life.Answered queries answered-done
    by_test false = no-more-stays queries

-- of a query that begins its lap its extent is to be cut
pub cut-started : (start extent other : ℕ) → to_cut other (started start extent) ≡ extent
cut-started start extent other = by_test (eqb extent 0) refl
  where
    by_test : (t : Bool) → eqb extent 0 ≡ t → to_cut other (cond {A = Life} t life.Ending (life.Running start extent)) ≡ extent
    by_test true is = sym (eqb-true extent 0 is)
    by_test false is = refl

-- and nothing more is to be done until it runs
pub steps-started : (start extent : ℕ) → steps_to_run (started start extent) ≡ 0
steps-started start extent = by_test (eqb extent 0)
  where
    by_test : (t : Bool) → steps_to_run (cond {A = Life} t life.Ending (life.Running start extent)) ≡ 0
    by_test true = refl
    by_test false = refl

-- a cut leaves no more of a query to be cut
cut-no-more : (positions extent : ℕ) (now : Life) → to_cut extent (cut_life positions now) ≤ to_cut extent now
cut-no-more positions extent (life.Running start left) = let less = cut-started start (left - positions) extent in omega arith
cut-no-more positions extent other = omega arith

-- and as much to be done until it runs
steps-stay : (positions : ℕ) (now : Life) → steps_to_run (cut_life positions now) ≡ steps_to_run now
steps-stay positions (life.Running start left) = steps-started start (left - positions)
steps-stay positions other = refl

-- a cut leaves no more to be cut, and as much to be done
pub cut-leaves : (first last : ℕ) (queries : List QueryLife)
    → (all_to_cut (map (cut_query first last) queries) ≤ all_to_cut queries) × (steps_in (map (cut_query first last) queries) ≡ steps_in queries)
cut-leaves first last queries = (
  sum-changed (λ e. to_cut e.extent e.life) (cut_query first last) queries (λ e. cut-no-more (covered first last e.extent) e.extent e.life),
  sum-same (λ e. steps_to_run e.life) (cut_query first last) queries (λ e. steps-stay (covered first last e.extent) e.life),
)

-- and less, where it takes positions of a query that runs
pub cut-less : (first last : ℕ) (queries : List QueryLife) (place : ℕ) (d : QueryLife) (start left : ℕ) → place < length queries
    → (get_or queries place d).life ≡ life.Running start left → 0 < left → 0 < covered first last (get_or queries place d).extent
    → all_to_cut (map (cut_query first last) queries) < all_to_cut queries
cut-less first last queries place d start left low runs some takes =
    sum-less (λ e. to_cut e.extent e.life) (cut_query first last) queries place d
    (λ e. cut-no-more (covered first last e.extent) e.extent e.life) low
    (subst (λ now. to_cut entry.extent (cut_life (covered first last entry.extent) now) < to_cut entry.extent now) (sym runs) less)
  where
    entry : QueryLife
    entry = get_or queries place d

    less : to_cut entry.extent (cut_life (covered first last entry.extent) (life.Running start left)) < left
    less = let is = cut-started start (left - covered first last entry.extent) entry.extent in omega arith
