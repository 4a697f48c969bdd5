-- Queries of which each stays as it is, or neither waits nor is built for nor runs any more.
use Rattle.core_driver.proofs.Words.{◌∙◌, ◌∷◌, ◌≡◌, ◌≤◌, ◌⊎◌, [], after_spoil, All, All-map, All-weaker, ap, BeganAt, Bool, cond, count_by, eqb, false, fold, inl, inr, is_ending, is_to_start, is_unfinished, IsLeftBetween, IsRunning, Life, life_in, List, Lives, map, option_map_or, QueryLife, refl, renewed, subst, sym, true, with_answer, with_life, ℕ, ⊎_elim}
use Rattle.std.proofs.lemmas.List.{map-id}
use Rattle.pipeline_manager.specs.declared.life.Life.TheVariants as life
use Rattle.core_driver.proofs.LapCountLemmas.{count-map-le}

-- a query stays, or is over
abbrev pub StaysOrEnds : (old new : QueryLife) → Type 0
StaysOrEnds old new = (new ≡ old) ⊎ (is_unfinished new.life ≡ false)

-- each query of a list does
pub record Ends (old new : List QueryLife) : Type 0 where
  pub change : QueryLife → QueryLife
  pub each : (entry : QueryLife) → StaysOrEnds entry (change entry)
  pub are : new ≡ map change old

-- each stays
pub ends-same : (queries : List QueryLife) → Ends queries queries
ends-same queries = record { change = λ entry. entry; each = λ entry. inl refl; are = sym (map-id queries) }

-- one change after the other
map-both : (first second : QueryLife → QueryLife) (queries : List QueryLife)
    → map second (map first queries) ≡ map (λ entry. second (first entry)) queries
map-both first second [] = refl
map-both first second (entry ∷ queries) = ap (λ rest. second (first entry) ∷ rest) (map-both first second queries)

-- each stays or is over in one step, and in another
pub ends-both : (old mid new : List QueryLife) → Ends old mid → Ends mid new → Ends old new
ends-both old mid new first second = record {
  change = λ entry. second.change (first.change entry);
  each = λ entry. ⊎_elim
      (λ same. ⊎_elim (λ before. inl (same ∙ before)) (λ over. inr (ap (λ (e : QueryLife). is_unfinished e.life) same ∙ over)) (first.each entry))
      (λ over. inr over) (second.each (first.change entry));
  are = second.are ∙ ap (map second.change) first.are ∙ map-both first.change second.change old;
}

-- a life that is over is written
pub ends-written : (query : ℕ) (new : Life) (queries : List QueryLife) → is_unfinished new ≡ false → Ends queries (with_life query new queries)
ends-written query new queries over = record { change = renewed query new; each = λ entry. by_test entry (eqb entry.query query); are = refl }
  where
    by_test : (entry : QueryLife) (t : Bool) → StaysOrEnds entry (cond {A = QueryLife} t (record entry { life = new }) entry)
    by_test entry true = inr over
    by_test entry false = inl refl

-- a query is answered, if it was ending
pub ends-answer : (query : ℕ) (queries : List QueryLife) → Ends queries (with_answer query queries)
ends-answer query queries = by_test (option_map_or is_ending (life_in queries query) false)
  where
    by_test : (t : Bool) → Ends queries (cond {A = List QueryLife} t (with_life query life.Answered queries) queries)
    by_test true = ends-written query life.Answered queries refl
    by_test false = ends-same queries

-- queries that find no memory, one after the other
pub ends-spoiled : (spoiled : List ℕ) (lives : Lives) → Ends lives.queries (fold (λ now query. after_spoil query now) lives spoiled).queries
ends-spoiled [] lives = ends-same lives.queries
ends-spoiled (query ∷ spoiled) lives =
    ends-both lives.queries (with_life query life.Spoiled lives.queries)
    (fold (λ now other. after_spoil other now) (after_spoil query lives) spoiled).queries
    (ends-written query life.Spoiled lives.queries refl) (ends-spoiled spoiled (after_spoil query lives))

-- what holds of each query, and of each that is over, holds of each still
pub all-ends : (P : QueryLife → Type 0) → ((entry : QueryLife) → is_unfinished entry.life ≡ false → P entry) → (old new : List QueryLife)
    → Ends old new → All P old → All P new
all-ends P over old new ends all =
    subst (All P) (sym ends.are)
    (All-map P ends.change old
    (All-weaker P (λ entry. P (ends.change entry))
    (λ entry holds. ⊎_elim (λ same. subst P (sym same) holds) (λ past. over (ends.change entry) past) (ends.each entry)) old all))

-- no more queries are unfinished
pub count-ends : (old new : List QueryLife) → Ends old new
    → count_by (λ entry. is_unfinished entry.life) new ≤ count_by (λ entry. is_unfinished entry.life) old
count-ends old new ends =
    subst (λ queries. count_by (λ entry. is_unfinished entry.life) queries ≤ count_by (λ entry. is_unfinished entry.life) old) (sym ends.are)
    (count-map-le (λ entry. is_unfinished entry.life) ends.change (λ entry is. ⊎_elim
    (λ same. ap (λ (e : QueryLife). is_unfinished e.life) (sym same) ∙ is)
    (λ over. absurd (let both : false ≡ true = sym over ∙ is in cc)) (ends.each entry)) old)

-- a life that is over does not run
pub over-runs : (now : Life) → is_unfinished now ≡ false → IsRunning now → ⊥
over-runs (life.Running start left) over runs = cc
over-runs other over runs = runs

-- a life that is over is not to begin to run
pub over-start : (now : Life) → is_unfinished now ≡ false → is_to_start now ≡ false
over-start life.Waiting over = cc
over-start life.Building over = cc
over-start other over = refl

-- it began anywhere
pub over-began : (start : ℕ) (now : Life) → is_unfinished now ≡ false → BeganAt start now
over-began start (life.Running other left) over = absurd (let both : true ≡ false = over in cc)
over-began start rest over = tt

-- and nothing is left of it
pub over-between : (first end extent : ℕ) (now : Life) → is_unfinished now ≡ false → IsLeftBetween first end extent now
over-between first end extent (life.Running start left) over = absurd (let both : true ≡ false = over in cc)
over-between first end extent other over = tt
