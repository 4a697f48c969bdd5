-- The other events leave as it is what a distributor has.
use Rattle.core_state.proofs.Words.{◌-◌, ◌∙◌, ◌≡◌, after_cutting, ap, attached_to, Build, Carry, Clear, cond, covered, Cut, cut_life, end_in, Event, false, first_in, gets_rows, Give, groups_in, holder_of, IsEnabled, IsSound, life_in-cut, Lives, None, Option, option_and_then, option_map, option_map_or, outcome_of, query_in, QueryLife, refl, Release, Reorder, Reserve, slot_at, Some, State, Submit, tables_of, Take, ℕ}
use Rattle.pipeline_manager.specs.Changes.{after_cut}
use Rattle.core_state.specs.Events.{after_event}
use Rattle.core_state.specs.Handed.{LeavesAttached}
use Rattle.core_state.proofs.AttachedFrameLemmas.{attached-same}
use Rattle.core_state.proofs.CutLifeLemmas.{cut-cases}
use Rattle.core_state.proofs.HandedSlotLemmas.{gets, kept_by}
use Rattle.core_state.proofs.ViewLemmas.{attached-views}
use Rattle.core_state.proofs.ViewEventLemmas.{views-build, views-clear, views-give, views-outcome, views-release, views-reserve}

-- a query that runs or ends gets rows after a cut, too
gets-cut : (first last : ℕ) (lives : Lives) (query : ℕ) → gets (after_cut first last lives) query ≡ gets lives query
gets-cut first last lives query =
    ap (λ o. option_map_or gets_rows o false) (life_in-cut first last lives.queries query) ∙ by_query (query_in lives.queries query)
  where
    by_query : (o : Option QueryLife)
        → option_map_or gets_rows (option_map (λ (entry : QueryLife). cut_life (covered first last entry.extent) entry.life) o) false
        ≡ option_map_or gets_rows (option_map (λ (entry : QueryLife). entry.life) o) false
    by_query None = refl
    by_query (Some entry) =
        cut-cases (λ now later. gets_rows later ≡ gets_rows now) (λ now. refl) (λ start left. refl) (λ start left less. refl)
        (covered first last entry.extent) entry.life

attached-cut : (state : State) → attached_to (after_cutting state) ≡ attached_to state
attached-cut state = attached-same state (after_cutting state) refl (λ slot low. by_holder (holder_of (slot_at state.lives slot)))
  where
    by_holder : (holder : Option ℕ) → kept_by (after_cutting state) holder ≡ kept_by state holder
    by_holder None = refl
    by_holder (Some query) = ap (λ t. option_and_then (groups_in state) (cond {A = Option ℕ} t (Some query) None))
        (gets-cut (first_in state) (end_in state - 1) state.lives query)

-- each of the other events
pub attached-event : (state : State) (event : Event) → IsSound state → IsEnabled state event → LeavesAttached event
    → attached_to (after_event event state) ≡ attached_to state
unfolding after_event
attached-event state (Submit seat statement) sound may leaves =
    attached-views state _ (views-outcome state seat (outcome_of (tables_of state) statement) sound)
attached-event state (Reserve query slot) sound may leaves = attached-views state _ (views-reserve state query slot sound may)
attached-event state (Build query dimension) sound may leaves = attached-views state _ (views-build state query dimension)
attached-event state Cut sound may leaves = attached-cut state
attached-event state (Take worker batch) sound may leaves = refl
attached-event state (Carry worker batch) sound may leaves = refl
attached-event state (Give worker) sound may leaves = attached-views state _ (views-give state worker)
attached-event state (Clear slot dimension) sound may leaves = attached-views state _ (views-clear state slot dimension)
attached-event state (Release slot) sound may leaves = attached-views state _ (views-release state slot may)
attached-event state Reorder sound may leaves = refl
attached-event state other sound may leaves = absurd leaves
