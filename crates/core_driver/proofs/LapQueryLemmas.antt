-- What holds of each query in a sound core, by its place among the lives.
use Rattle.core_driver.proofs.Words.{◌∙◌, ◌≡◌, ◌≤◌, Accepted, accepted_at, All, Any, ap, eqb, eqb-true, false, find-holds, find-passes, get_or, get_or_default, is_some, IsLeft, IsNext, IsSome, IsSound, Life, List, None, Option, query_in, query_in-found, QueryLife, refl, Some, State, subst, sym, tables_of, true, versions_in, ℕ}
use Rattle.pipeline_manager.specs.declared.life.Life.TheVariants as life
use Rattle.core_state.specs.Sound.{IsKept, IsSoundQuery}
use Rattle.core_state.proofs.FoundLemmas.{some-at}
use Rattle.core_state.proofs.ScannedOverLemmas.{life-accepted}

-- what holds of none holds not of any
pub none-any : {X : Type 0} (P : X → Type 0) (xs : List X) → All (λ x. P x → ⊥) xs → Any P xs → ⊥
none-any P xs none any = none any.0 any.1 any.2 (subst P (sym any.3) any.4)

-- the other way round
pub all-none : {X : Type 0} (P : X → Type 0) (xs : List X) → (Any P xs → ⊥) → All (λ x. P x → ⊥) xs
all-none P xs none = λ k d low holds. none (k, get_or xs k d, low, get_or_default xs k (get_or xs k d) d low, holds)

-- a query in a sound core: its extent is within the table, and what comes next of it and is left of it is as its life says
pub record OfQuery (state : State) (entry : QueryLife) : Type 0 where
  pub extent : entry.extent ≤ versions_in state
  pub next : IsNext state.scan.position entry.extent entry.life
  pub left : IsLeft entry.extent entry.life

-- what is kept of a query says what comes next of it
kept-next : (state : State) (accepted : Accepted) (extent : ℕ) (now : Life) → IsKept (tables_of state) state.seats state.scan accepted extent now
    → IsNext state.scan.position extent now
kept-next state accepted extent (life.Running start left) kept = kept.next
kept-next state accepted extent other kept = tt

-- a query that is found by its number
of-entry : (state : State) → IsSound state → (entry : QueryLife) → query_in state.lives.queries entry.query ≡ Some entry
    → IsLeft entry.extent entry.life → OfQuery state entry
of-entry state sound entry found left =
    by_accepted (accepted_at state.accepted entry.query) refl (life-accepted state entry.query sound (ap is_some found))
  where
    by_accepted : (o : Option Accepted) → accepted_at state.accepted entry.query ≡ o → IsSome o → OfQuery state entry
    by_accepted None there some = absurd (let both : false ≡ true = some in cc)
    by_accepted (Some accepted) there some =
        let number : accepted.number ≡ entry.query =
        eqb-true accepted.number entry.query (find-passes (λ a. eqb a.number entry.query) state.accepted accepted there) in
        let of_query : IsSoundQuery state accepted =
        find-holds (IsSoundQuery state) (λ a. eqb a.number entry.query) state.accepted accepted there sound.queries.each in
        let here : query_in state.lives.queries accepted.number ≡ Some entry = ap (query_in state.lives.queries) number ∙ found in
        record {
          extent = some-at (λ e. e.extent ≤ versions_in state) (query_in state.lives.queries accepted.number) entry here of_query.within;
          next = kept-next state accepted entry.extent entry.life
              (some-at (λ e. IsKept (tables_of state) state.seats state.scan accepted e.extent e.life) (query_in state.lives.queries accepted.number) entry here of_query.kept);
          left = left;
        }

-- each query that has a life
pub each-query : (state : State) → IsSound state → All (OfQuery state) state.lives.queries
each-query state sound = λ k d low.
    of-entry state sound (get_or state.lives.queries k d)
    (query_in-found state.lives.queries k (get_or state.lives.queries k d).query d sound.slots.lives.rising low refl)
    (sound.slots.lives.left k d low)
