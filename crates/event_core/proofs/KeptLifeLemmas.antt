-- What a sound core keeps of a query with a life.
use Rattle.event_core.proofs.Words.{◌∙◌, ◌≡◌, Accepted, accepted_at, ap, eqb, eqb-true, find-holds, find-passes, IfSome, IsKept, IsSound, IsSoundQuery, Life, life_in, life_of, None, Option, option_map, query_in, QueryLife, Some, State, subst, tables_of, ℕ}

-- what is kept is what its life says
pub kept-with : (state : State) (query : ℕ) (accepted : Accepted) (now : Life) → IsSound state
    → accepted_at state.accepted query ≡ Some accepted → life_of state.lives query ≡ Some now
    → (extent : ℕ) × IsKept (tables_of state) state.seats state.scan accepted extent now
kept-with state query accepted now sound found lives = by_query (query_in state.lives.queries accepted.number) here of_query.kept
  where
    of_query : IsSoundQuery state accepted
    of_query = find-holds (IsSoundQuery state) (λ (a : Accepted). eqb a.number query) state.accepted accepted found sound.queries.each

    here : life_in state.lives.queries accepted.number ≡ Some now
    here =
        ap (life_in state.lives.queries)
        (eqb-true accepted.number query (find-passes (λ (a : Accepted). eqb a.number query) state.accepted accepted found))
        ∙ lives

    by_query : (o : Option QueryLife) → option_map (λ (e : QueryLife). e.life) o ≡ Some now
        → IfSome o (λ entry. IsKept (tables_of state) state.seats state.scan accepted entry.extent entry.life) → (extent : ℕ) × IsKept (tables_of state) state.seats state.scan accepted extent now
    by_query None is kept = cc
    by_query (Some entry) is kept =
        let same : entry.life ≡ now = cc in (entry.extent, subst (IsKept (tables_of state) state.seats state.scan accepted entry.extent) same kept)
