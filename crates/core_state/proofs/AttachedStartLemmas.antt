-- What a distributor has of an empty core, where a query begins its lap, and where its slot is taken from it.
use Rattle.core_state.proofs.Words.{◌<◌, ◌∙◌, ◌≡◌, [], Accepted, accepted_at, after_finish, after_start, ap, arith, attached_to, CanRun, cond, empty_core, ext_get_or, extent_in, false, first_of, Free, get_or-replicate, gets_rows, given_up, grouped_of, groups_in, Held, holder_of, is_ending, is_some, IsKept, IsSome, IsSound, IsSoundQuery, length, length-replicate, Life, life_in, life_in-same, life_of, List, MayFinish, None, option_map, option_map_or, QueryLife, refl, replicate, RunSettings, set, slice_get, slot_at, slot_of, Some, started, State, subst, sym, tables_of, true, versions_in, with_life, ℕ}
use Rattle.pipeline_manager.specs.declared.life.Life.TheVariants as life
use Rattle.core_state.proofs.AcceptedLemmas.{of-accepted}
use Rattle.core_state.proofs.AttachedFrameLemmas.{attached-count, attached-get, attached-slice}
use Rattle.core_state.proofs.CutLifeLemmas.{started-by}
use Rattle.core_state.proofs.CutRosterLemmas.{holds-slot}
use Rattle.core_state.proofs.FoundLemmas.{life-entry}
use Rattle.core_state.proofs.FrameLemmas.{lives-as}
use Rattle.core_state.proofs.HandedBatchLemmas.{HasGroups, fed-groups}
use Rattle.core_state.proofs.HandedSlotLemmas.{gets, held-there, kept-none, kept-some, kept_by}
use Rattle.core_state.proofs.ViewLemmas.{attached-but}
use Rattle.core_state.proofs.ViewEventLemmas.{views-at, views-finish}

-- nothing of an empty core
pub attached-empty : (settings : RunSettings) → attached_to (empty_core settings) ≡ replicate settings.slots None
attached-empty settings =
    ext_get_or None (attached_to (empty_core settings)) (replicate settings.slots None)
    (attached-count (empty_core settings) ∙ length-replicate settings.slots Free ∙ sym (length-replicate settings.slots None)) (λ slot low.
    let many = attached-count (empty_core settings) in
    let slots : length (replicate settings.slots Free) ≡ settings.slots = length-replicate settings.slots Free in
    let there : slot < length (replicate settings.slots Free) = omega arith in
    let inside : slot < settings.slots = omega arith in
    attached-get (empty_core settings) slot there
    ∙ ap (λ s. kept_by (empty_core settings) (holder_of s)) (get_or-replicate settings.slots slot Free Free inside)
    ∙ sym (get_or-replicate settings.slots slot None None inside))

-- nothing is folded for a query that is being built
kept-building : (state : State) (query : ℕ) (accepted : Accepted) → IsSound state → accepted_at state.accepted query ≡ Some accepted
    → life_of state.lives query ≡ Some life.Building → accepted.groups ≡ Some (grouped_of accepted.query [])
kept-building state query accepted sound found building =
    let of = of-accepted state query accepted sound.queries found in
    let entry = life-entry state.lives.queries accepted.number life.Building (ap (life_in state.lives.queries) of.1 ∙ building) in
    subst (IsKept (tables_of state) state.seats state.scan accepted entry.0.extent) entry.2 (lives-as state accepted of.0 entry.0 entry.1).0

-- the groups of no rows are attached where a query begins its lap
pub attached-start : (state : State) (query slot : ℕ) (accepted : Accepted) → IsSound state → CanRun query state.lives
    → slot_of state.lives query ≡ Some slot → accepted_at state.accepted query ≡ Some accepted
    → (attached_to (after_start query state) ≡ set (attached_to state) slot (Some (grouped_of accepted.query [])))
    × (slice_get (attached_to state) slot ≡ Some None)
attached-start state query slot accepted sound can place found = (
  attached-but state (after_start query state) slot (Some (grouped_of accepted.query [])) (views-at state query slot new sound place) held.1
      (ap (λ s. kept_by (after_start query state) (holder_of s)) held.2
      ∙ kept-some (after_start query state) query yet
      ∙ ap (λ o. option_map_or (λ (a : Accepted). a.groups) o None) found
      ∙ kept-building state query accepted sound found can.building),
  attached-slice state slot None held.1
      (ap (λ s. kept_by state (holder_of s)) held.2
      ∙ kept-none state query (ap (λ o. option_map_or gets_rows o false) can.building)),
)
  where
    new : Life
    new = started (first_of state.scan.position (versions_in state)) (extent_in state.lives.queries query)

    held : (built : ℕ) × (slot < length state.lives.slots) × (slot_at state.lives slot ≡ Held query built)
    held = holds-slot state.lives query slot place

    yet : gets (after_start query state).lives query ≡ true
    yet = ap (λ o. option_map_or gets_rows o false)
        (life_in-same state.lives.queries query new ∙ ap (option_map (λ (old : Life). new)) can.building)
        ∙ started-by (λ now. gets_rows now ≡ true) (first_of state.scan.position (versions_in state)) (extent_in state.lives.queries query) refl refl

-- what the query of a slot had is detached where the slot is taken from it
pub attached-finish : (state : State) (slot : ℕ) → IsSound state → MayFinish slot state
    → attached_to (after_finish slot state) ≡ set (attached_to state) slot None
attached-finish state slot sound may =
    let taken = views-finish state slot sound may in
    attached-but state (after_finish slot state) slot None taken.views taken.there (ap (kept_by (after_finish slot state)) taken.after)

-- what is detached as a query is answered is what the core keeps of it
pub attached-answer : (state : State) (slot query built : ℕ) (accepted : Accepted) → IsSound state
    → slot_at state.lives slot ≡ Held query built → life_of state.lives query ≡ Some life.Ending
    → accepted_at state.accepted query ≡ Some accepted
    → (slice_get (attached_to state) slot ≡ Some accepted.groups) × IsSome accepted.groups
    × (groups_in (after_finish slot state) query ≡ accepted.groups) × (life_of (after_finish slot state).lives query ≡ Some life.Answered)
attached-answer state slot query built accepted sound holds ending found = (
  attached-slice state slot accepted.groups (held-there state.lives slot query built holds)
      (ap (λ s. kept_by state (holder_of s)) holds ∙ kept-some state query yet ∙ groups),
  ap is_some has.1,
  groups,
  ap (λ s. life_of (given_up slot s state.lives) query) holds
      ∙ ap (λ t. life_in (cond {A = List QueryLife} t (with_life query life.Answered state.lives.queries) state.lives.queries) query)
      (ap (λ o. option_map_or is_ending o false) ending)
      ∙ life_in-same state.lives.queries query life.Answered ∙ ap (option_map (λ (old : Life). life.Answered)) ending,
)
  where
    yet : gets state.lives query ≡ true
    yet = ap (λ o. option_map_or gets_rows o false) ending

    groups : groups_in state query ≡ accepted.groups
    groups = ap (λ o. option_map_or (λ (a : Accepted). a.groups) o None) found

    of : IsSoundQuery state accepted × (accepted.number ≡ query)
    of = of-accepted state query accepted sound.queries found

    has : HasGroups accepted
    has = fed-groups state accepted of.0 (ap (gets state.lives) of.1 ∙ yet)
