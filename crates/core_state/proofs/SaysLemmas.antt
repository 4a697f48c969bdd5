-- What is said of the life of a query stays said of it through calls, if it does where that life turns.
use Rattle.core_state.proofs.Words.{◌∙◌, ◌∷◌, ◌≡◌, [], after_end, after_spoil, ap, Bool, cases_eq, Clearing, cond, covered, cut_life, cut_query, false, fold, Free, given_up, Held, is_ending, Life, life_in, life_in-cut, life_in-other, life_in-same, List, Lives, map, None, Option, option_map, option_map_or, query_in, QueryLife, refl, set, slot_at, SlotState, Some, subst, sym, true, with_life, ℕ, ⊎_elim}
use Rattle.pipeline_manager.specs.Changes.{after_reserve}
use Rattle.pipeline_manager.specs.Lives.{oldest_waiting}
use Rattle.pipeline_manager.specs.declared.life.Life.TheVariants as life

-- another life is written of a query
pub says-written : (Says : Option Life → Type 0) (query : ℕ) (new : Life) (queries : List QueryLife) (number : ℕ)
    → ((old : Life) → life_in queries query ≡ Some old → Says (Some old) → Says (Some new)) → Says (life_in queries number)
    → Says (life_in (with_life query new queries) number)
says-written Says query new queries number turns says = ⊎_elim
    (λ same. subst Says (sym (ap (life_in (with_life query new queries)) same ∙ life_in-same queries query new))
    (by_found (life_in queries query) refl (subst (λ n. Says (life_in queries n)) same says)))
    (λ apart. subst Says (sym (life_in-other queries query number new apart)) says)
    (cases_eq number query)
  where
    by_found : (o : Option Life) → life_in queries query ≡ o → Says o → Says (option_map (λ before. new) o)
    by_found None is h = h
    by_found (Some old) is h = turns old is h

-- `cut`
pub says-cut : (Says : Option Life → Type 0) (first last : ℕ) (queries : List QueryLife) (number : ℕ)
    → ((positions : ℕ) (now : Life) → Says (Some now) → Says (Some (cut_life positions now))) → Says (life_in queries number)
    → Says (life_in (map (cut_query first last) queries) number)
says-cut Says first last queries number turns says =
    subst Says (sym (life_in-cut first last queries number)) (by_found (query_in queries number) says)
  where
    by_found : (o : Option QueryLife) → Says (option_map (λ e. e.life) o)
        → Says (option_map (λ e. cut_life (covered first last e.extent) e.life) o)
    by_found None h = h
    by_found (Some entry) h = turns (covered first last entry.extent) entry.life h

-- `spoil`, of some queries
pub says-spoiled : (Says : Option Life → Type 0) (spoiled : List ℕ) (lives : Lives) (number : ℕ)
    → ((now : Life) → Says (Some now) → Says (Some life.Spoiled)) → Says (life_in lives.queries number)
    → Says (life_in (fold (λ now query. after_spoil query now) lives spoiled).queries number)
says-spoiled Says [] lives number turns says = says
says-spoiled Says (query ∷ spoiled) lives number turns says =
    says-spoiled Says spoiled (after_spoil query lives) number turns
    (says-written Says query life.Spoiled lives.queries number (λ old is. turns old) says)

-- what holds of the queries after `end`: they stay, or one that is Ending is Answered
pub ended-cases : (P : List QueryLife → Type 0) (slot : ℕ) (lives : Lives) → P lives.queries
    → ((query : ℕ) → life_in lives.queries query ≡ Some life.Ending → P (with_life query life.Answered lives.queries))
    → P (after_end slot lives).queries
ended-cases P slot lives stays answers = by_state (slot_at lives slot)
  where
    ending-is : (o : Option Life) → option_map_or is_ending o false ≡ true → o ≡ Some life.Ending
    ending-is (Some life.Ending) ends = refl
    ending-is other ends = absurd (let both : false ≡ true = ends in cc)

    by_test : (query : ℕ) (t : Bool) → option_map_or is_ending (life_in lives.queries query) false ≡ t
        → P (cond {A = List QueryLife} t (with_life query life.Answered lives.queries) lives.queries)
    by_test query true ends = answers query (ending-is (life_in lives.queries query) ends)
    by_test query false ends = stays

    by_state : (state : SlotState) → P (given_up slot state lives).queries
    by_state Free = stays
    by_state (Held query built) = by_test query (option_map_or is_ending (life_in lives.queries query) false) refl
    by_state (Clearing left) = stays

-- and after `reserve`: they stay, or the one that waits the longest is Building
pub reserved-cases : (P : List QueryLife → Type 0) (slot : ℕ) (lives : Lives) → P lives.queries
    → ((query : ℕ) → oldest_waiting lives ≡ Some query → P (with_life query life.Building lives.queries)) → P (after_reserve slot lives).queries
reserved-cases P slot lives stays builds = by_oldest (oldest_waiting lives) refl
  where
    by_oldest : (o : Option ℕ) → oldest_waiting lives ≡ o → P (option_map_or
        (λ query. record lives { queries = with_life query life.Building lives.queries; slots = set lives.slots slot (Held query 0) }) o lives).queries
    by_oldest None is = stays
    by_oldest (Some query) is = builds query is
