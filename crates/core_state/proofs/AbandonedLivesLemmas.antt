-- Whoever is abandoned after another life was written was so before.
use Rattle.core_state.proofs.Words.{◌++◌, ◌∙◌, ◌∷◌, ◌≡◌, ◌≢◌, [], after_end, after_spoil, ap, Bool, cond, cut_life, cut_query, eqb, false, find, fold, Life, life_in, life_in-other, List, Lives, map, None, Option, option_map, query_in, QueryLife, Some, started, sym, true, with_life, ℕ}
use Rattle.pipeline_manager.specs.declared.life.Life.TheVariants as life
use Rattle.std.proofs.lemmas.List.Folds.{find-append}
use Rattle.std.specs.Option.{option_or}
use Rattle.pipeline_manager.specs.Changes.{after_reserve}
use Rattle.core_state.proofs.CutLifeLemmas.{cut-cases, started-by}
use Rattle.core_state.proofs.SaysLemmas.{says-cut, says-spoiled, says-written, ended-cases, reserved-cases}

-- who is abandoned was so
abbrev pub WereLost : List QueryLife → List QueryLife → Type 0
WereLost old new = (number : ℕ) → life_in new number ≡ Some life.Abandoned → life_in old number ≡ Some life.Abandoned

-- who is found abandoned was so
abbrev WasLost : List QueryLife → (number : ℕ) → Option Life → Type 0
WasLost old number now = now ≡ Some life.Abandoned → life_in old number ≡ Some life.Abandoned

-- a life that is not Abandoned is written
pub were-written : (query : ℕ) (new : Life) (queries : List QueryLife) → (new ≡ life.Abandoned → ⊥)
    → WereLost queries (with_life query new queries)
were-written query new queries never number =
    says-written (WasLost queries number) query new queries number
    (λ old is before now. absurd (never (let both : Some new ≡ Some life.Abandoned = now in let same : new ≡ life.Abandoned = cc in same)))
    (λ is. is)

-- where a query is abandoned, no other is
pub were-others : (query : ℕ) (queries : List QueryLife) (number : ℕ) → number ≢ query
    → life_in (with_life query life.Abandoned queries) number ≡ Some life.Abandoned → life_in queries number ≡ Some life.Abandoned
were-others query queries number apart is = sym (life_in-other queries query number life.Abandoned apart) ∙ is

-- a query behind all others, which is not abandoned
pub were-behind : (queries : List QueryLife) (entry : QueryLife) → (entry.life ≡ life.Abandoned → ⊥) → WereLost queries (queries ++ entry ∷ [])
were-behind queries entry never number is =
    by_found (query_in queries number)
    (sym (ap (option_map (λ e. e.life)) (find-append (λ (e : QueryLife). eqb e.query number) queries (entry ∷ []))) ∙ is)
  where
    Lost : Option QueryLife → Type 0
    Lost o = option_map (λ e. e.life) o ≡ Some life.Abandoned

    by_test : (t : Bool) → Lost (cond {A = Option QueryLife} t (Some entry) None) → Lost None
    by_test true e = absurd (never (let same : entry.life ≡ life.Abandoned = cc in same))
    by_test false e = e

    by_found : (o : Option QueryLife) → Lost (option_or o (find (λ (e : QueryLife). eqb e.query number) (entry ∷ []))) → Lost o
    by_found None e = by_test (eqb entry.query number) e
    by_found (Some one) e = e

-- a life that is Abandoned after a cut was so
cut-abandoned : (positions : ℕ) (now : Life) → cut_life positions now ≡ life.Abandoned → now ≡ life.Abandoned
cut-abandoned = cut-cases (λ now later. later ≡ life.Abandoned → now ≡ life.Abandoned) (λ now e. e) (λ start left e. cc) (λ start left less e. cc)

-- a cut
pub were-cut : (first last : ℕ) (queries : List QueryLife) → WereLost queries (map (cut_query first last) queries)
were-cut first last queries number =
    says-cut (WasLost queries number) first last queries number
    (λ positions one before now.
    let both : Some (cut_life positions one) ≡ Some life.Abandoned = now in
    let same : cut_life positions one ≡ life.Abandoned = cc in
    before (ap Some (cut-abandoned positions one same)))
    (λ is. is)

-- the life of a query that starts
pub started-never : (start extent : ℕ) → started start extent ≡ life.Abandoned → ⊥
started-never start extent = started-by (λ now. now ≡ life.Abandoned → ⊥) start extent (λ e. cc) (λ e. cc)

-- a slot that is taken from its query
pub were-ended : (slot : ℕ) (lives : Lives) → WereLost lives.queries (after_end slot lives).queries
were-ended slot lives =
    ended-cases (WereLost lives.queries) slot lives (λ number is. is) (λ query ends. were-written query life.Answered lives.queries (λ e. cc))

-- queries that find no memory
pub were-spoiled : (spoiled : List ℕ) (lives : Lives) → WereLost lives.queries (fold (λ now query. after_spoil query now) lives spoiled).queries
were-spoiled spoiled lives number =
    says-spoiled (WasLost lives.queries number) spoiled lives number
    (λ old before now. absurd (let both : Some life.Spoiled ≡ Some life.Abandoned = now in cc)) (λ is. is)

-- the query that waits the longest gets a slot
pub were-reserved : (slot : ℕ) (lives : Lives) → WereLost lives.queries (after_reserve slot lives).queries
were-reserved slot lives =
    reserved-cases (WereLost lives.queries) slot lives (λ number is. is) (λ query oldest. were-written query life.Building lives.queries (λ e. cc))
