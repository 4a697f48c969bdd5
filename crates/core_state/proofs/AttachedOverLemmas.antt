-- What a distributor has where a query is abandoned, finds no memory, or its reply is taken.
use Rattle.core_state.proofs.Words.{◌∙◌, ◌≡◌, Accepted, after_abandoning, after_build_wants, after_taking, ap, attached_to, CanAbandon, CanBuild, false, forgotten, gets_rows, holder_of, IfSome, IsSome, IsSound, Life, life_in, map, next_ready, None, Option, option_map_or, refl, set, slot_of, Some, State, subst, sym, take, without_groups, ℕ, ⊎_elim}
use Rattle.pipeline_manager.specs.declared.life.Life.TheVariants as life
use Rattle.core_state.specs.Handed.{detached_for}
use Rattle.core_state.proofs.CutRosterLemmas.{holds-slot}
use Rattle.core_state.proofs.FrameLemmas.{Told}
use Rattle.core_state.proofs.HandedSlotLemmas.{gets, gets-none, kept-none, kept_by}
use Rattle.core_state.proofs.ScannedLifeLemmas.{accepted-other, holds-once}
use Rattle.core_state.proofs.ScannedOverLemmas.{open-accepted, without_answer}
use Rattle.core_state.proofs.TakingLemmas.{ready-first}
use Rattle.core_state.proofs.ViewLemmas.{Views, attached-but, attached-views}
use Rattle.core_state.proofs.ViewEventLemmas.{others-without, views-quiet, views-wants, views-written}

-- what a query had is detached where it is abandoned
attached-without : (state : State) (query : ℕ) (accepted : Accepted) → IsSound state
    → attached_to (without_answer query accepted state) ≡ detached_for state.lives query (attached_to state)
attached-without state query accepted sound = by_place (slot_of state.lives query) refl
    (views-written state later query refl refl (others-without state query life.Abandoned) (holds-once state sound))
  where
    later : State
    later = without_answer query accepted state

    by_place : (o : Option ℕ) → slot_of state.lives query ≡ o → Views state later o
        → attached_to later ≡ option_map_or (λ slot. set (attached_to state) slot None) o (attached_to state)
    by_place None place views = attached-views state later views
    by_place (Some slot) place views =
        let held = holds-slot state.lives query slot place in
        attached-but state later slot None views held.1
        (ap (λ s. kept_by later (holder_of s)) held.2 ∙ kept-none later query (gets-none state.lives query life.Abandoned refl))

pub attached-abandon : (state : State) (query : ℕ) → IsSound state → CanAbandon query state.lives
    → attached_to (after_abandoning query state) ≡ detached_for state.lives query (attached_to state)
attached-abandon state query sound can =
    let asked = open-accepted state query sound can in
    subst (λ o. attached_to (option_map_or (λ accepted. without_answer query accepted state) o state) ≡ detached_for state.lives query (attached_to state))
    (sym asked.1) (attached-without state query asked.0 sound)

-- a query that finds no memory as a filter is built for it got no rows
pub attached-wants : (state : State) (query dimension : ℕ) → CanBuild query dimension state.lives
    → attached_to (after_build_wants query state) ≡ attached_to state
attached-wants state query dimension can = attached-views state (after_build_wants query state) (views-wants state query dimension can)

-- who is told gets no rows
told-none : (o : Option Life) → IfSome o Told → option_map_or gets_rows o false ≡ false
told-none None told = refl
told-none (Some now) told = ⊎_elim (λ is. ap gets_rows is) (λ is. ap gets_rows is) told

-- a query whose reply is taken gets no rows
pub attached-taking : (state : State) (seat : ℕ) → IsSound state → IsSome (next_ready state seat)
    → attached_to (after_taking seat state) ≡ attached_to state
attached-taking state seat sound ready =
    let first = ready-first state seat sound ready in
    let statement : ℕ = first.0.statement in
    let none : gets state.lives statement ≡ false = told-none (life_in state.lives.queries statement) first.3 in
    let later : State = record state { accepted = map (forgotten statement) state.accepted } in
    subst (λ pending. attached_to (record state { accepted = without_groups (take 1 pending) state.accepted }) ≡ attached_to state) (sym first.2)
    (attached-views state later (views-quiet state later statement refl refl
    (λ number apart. (refl, accepted-other statement state.accepted number apart)) none none))
