-- Queries whose numbers rise, and which of them waits first.
use Rattle.std.proofs.Common.{◌≡◌, ℕ, zero, suc, ◌<◌, ◌≤◌, true, false, List, [], ◌∷◌, length, get_or, slice_get, find, Some, None, refl, sym, ◌∙◌, arith, subst}
use Rattle.std.specs.List.{All}
use Rattle.std.proofs.lemmas.List.{take_all}
use Rattle.star_values.proofs.RisingLemmas.{IsMissing, find-at, find-missing}
use Rattle.pipeline_manager.specs.declared.life.QueryLife.{QueryLife}
use Rattle.pipeline_manager.specs.Lives.{is_waiting, query_in}
use Rattle.pipeline_manager.specs.Inside.{NoneWaits}
use Rattle.pipeline_manager.specs.Sound.{AreRising}

-- the query at a place with this number is the one with this number
pub query_in-found : (queries : List QueryLife) (place query : ℕ) (d : QueryLife) → AreRising queries → place < length queries
    → (get_or queries place d).query ≡ query → query_in queries query ≡ Some (get_or queries place d)
query_in-found = find-at (λ (entry : QueryLife). entry.query)

-- where no query has the number, none is found
pub query_in-missing : (queries : List QueryLife) (query : ℕ) → IsMissing (λ (entry : QueryLife). entry.query) query queries
    → query_in queries query ≡ None
query_in-missing = find-missing (λ (entry : QueryLife). entry.query)

-- the first query that waits is behind those of which none does
pub find-first_waiting : (queries : List QueryLife) (place : ℕ) (d : QueryLife) → NoneWaits place queries
    → place < length queries → is_waiting (get_or queries place d).life ≡ true
    → slice_get queries place ≡ find (λ entry. is_waiting entry.life) queries
find-first_waiting [] place d none within waits = absurd (omega arith)
find-first_waiting (entry ∷ queries) zero d none within waits = rw waits refl
find-first_waiting (entry ∷ queries) (suc place) d none within waits =
    rw (none zero entry (omega arith))
    (find-first_waiting queries place d (λ k e below. none (suc k) e (omega arith)) (omega arith) waits)

-- where none of all queries waits, none is found
pub find-none_waits : (queries : List QueryLife) → NoneWaits (length queries) queries
    → slice_get queries (length queries) ≡ find (λ entry. is_waiting entry.life) queries
find-none_waits [] none = refl
find-none_waits (entry ∷ queries) none =
    rw (none zero entry (omega arith)) (find-none_waits queries (λ k d below. none (suc k) d (omega arith)))

-- of all queries none waits where none of as many or more does
pub none_waits-all : (queries : List QueryLife) (count : ℕ) → length queries ≤ count → NoneWaits count queries
    → NoneWaits (length queries) queries
none_waits-all queries count many none =
    subst (All (λ entry. is_waiting entry.life ≡ false))
    (take_all count queries many ∙ sym (take_all (length queries) queries (omega arith))) none
