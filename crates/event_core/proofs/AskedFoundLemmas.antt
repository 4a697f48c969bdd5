-- Accepted queries that are found by their numbers.
use Rattle.event_core.proofs.Words.{◌∷◌, ◌≡◌, [], Accepted, accepted_as, accepted_at, accepted_in, asked_at, AskedQuery, Bool, cond, CoreParts, eqb, false, Grouped, IsCore, IsSome, Life, life-accepted, life_of, List, Lives, None, Option, option_map, query_in, QueryLife, refl, Some, state_of, subst, true, ℕ}

-- the state has the accepted query of a number where the parts have it
pub accepted-found : (lives : Lives) (attached : List (Option Grouped)) (asked : List AskedQuery) (number : ℕ)
    → accepted_at (accepted_in lives attached asked) number ≡ option_map (accepted_as lives attached) (asked_at asked number)
accepted-found lives attached [] number = refl
accepted-found lives attached (entry ∷ asked) number =
    by_test (eqb entry.number number) (accepted-found lives attached asked number)
  where
    by_test : (t : Bool) → accepted_at (accepted_in lives attached asked) number ≡ option_map (accepted_as lives attached) (asked_at asked number)
        → cond {A = Option Accepted} t (Some (accepted_as lives attached entry)) (accepted_at (accepted_in lives attached asked) number)
        ≡ option_map (accepted_as lives attached) (cond {A = Option AskedQuery} t (Some entry) (asked_at asked number))
    by_test true rest = refl
    by_test false rest = rest

-- a query with a life was accepted
pub asked-there : (parts : CoreParts) (query : ℕ) (now : Life) → IsCore parts → life_of parts.lives query ≡ Some now
    → IsSome (asked_at parts.asked query)
asked-there parts query now core lives =
    by_asked (asked_at parts.asked query)
    (subst IsSome (accepted-found parts.lives parts.attached parts.asked query)
    (life-accepted (state_of parts) query core.sound (by_life (query_in parts.lives.queries query) lives)))
  where
    by_life : (o : Option QueryLife) → option_map (λ (entry : QueryLife). entry.life) o ≡ Some now → IsSome o
    by_life None is = cc
    by_life (Some entry) is = refl

    by_asked : (o : Option AskedQuery) → IsSome (option_map (accepted_as parts.lives parts.attached) o) → IsSome o
    by_asked None some = some
    by_asked (Some entry) some = refl
