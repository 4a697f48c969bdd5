-- A scan of an empty core, and what the other events leave of a scan.
use Rattle.core_state.proofs.Words.{◌<◌, ◌∙◌, ◌∷◌, ◌≡◌, [], Accepted, after_build_wants, after_carry, after_reorder, after_take, after_taking, ap, arith, Build, CanBuild, Carry, Clear, Distribute, empty_core, Event, Finish, forgotten, Free, get_or, get_or-replicate, Give, holder_of, IsEnabled, IsScannedAs, IsSound, length, length-replicate, life_of, List, Lives, map, None, Option, option_and_then, outcome_of, Pending, refl, Release, Reorder, replicate, Reserve, RunSettings, Scanning, seat_at, slot_at, start_in, State, Submit, subst, sym, tables_of, take, Take, without_groups, ℕ}
use Rattle.continuous_scan.specs.Range.{new_scan}
use Rattle.core_state.specs.Events.{after_event}
use Rattle.core_state.specs.Scanned.{LeavesScan}
use Rattle.core_state.proofs.AnewLemmas.{forgets}
use Rattle.core_state.proofs.ScannedCutLemmas.{RunsBy}
use Rattle.core_state.proofs.ScannedOverLemmas.{asked-stays, found-kept, scanned-distribute}
use Rattle.core_state.proofs.ScannedRunLemmas.{found_by}
use Rattle.core_state.proofs.ViewLemmas.{scanned-none, scanned-stays, scanned-views}
use Rattle.core_state.proofs.ViewEventLemmas.{IsTakenFrom, views-all, views-build, views-clear, views-finish, views-give, views-outcome, views-release, views-reserve, views-wants}

-- where a slot is taken from its query, nobody ran in it
scanned-finish : (state later : State) (scan : Scanning) (slot : ℕ) → IsTakenFrom state later slot → IsScannedAs state scan → IsScannedAs later scan
scanned-finish state later scan slot taken = scanned-none state later scan slot taken.views taken.before
    (ap (λ holder. option_and_then start_in (option_and_then (life_of later.lives) holder)) taken.after)

-- each event that leaves a scan
pub scanned-event : (state : State) (scan : Scanning) (event : Event) → IsSound state → IsEnabled state event → LeavesScan event
    → IsScannedAs state scan → IsScannedAs (after_event event state) scan
unfolding after_event
scanned-event state scan (Submit seat statement) sound may leaves =
    scanned-views state _ scan (views-outcome state seat (outcome_of (tables_of state) statement) sound)
scanned-event state scan (Reserve query slot) sound may leaves = scanned-views state _ scan (views-reserve state query slot sound may)
scanned-event state scan (Build query dimension) sound may leaves = scanned-views state _ scan (views-build state query dimension)
scanned-event state scan (Take worker batch) sound may leaves = scanned-views state (after_take worker batch state) scan
    (views-all state (after_take worker batch state) (record { position = refl; accepted = refl; queries = refl; slots = refl }))
scanned-event state scan (Carry worker batch) sound may leaves = scanned-views state (after_carry worker batch state) scan
    (views-all state (after_carry worker batch state) (record { position = refl; accepted = refl; queries = refl; slots = refl }))
scanned-event state scan (Give worker) sound may leaves = scanned-views state _ scan (views-give state worker)
scanned-event state scan (Distribute batch) sound may leaves = scanned-distribute state scan batch [] sound may.there
scanned-event state scan (Finish slot) sound may leaves = scanned-finish state _ scan slot (views-finish state slot sound may)
scanned-event state scan (Clear slot dimension) sound may leaves = scanned-views state _ scan (views-clear state slot dimension)
scanned-event state scan (Release slot) sound may leaves = scanned-views state _ scan (views-release state slot may)
scanned-event state scan Reorder sound may leaves = scanned-views state (after_reorder state) scan
    (views-all state (after_reorder state) (record { position = refl; accepted = refl; queries = refl; slots = refl }))
scanned-event state scan other sound may leaves = absurd leaves

-- a query that finds no memory as a filter is built for it did not run
pub scanned-wants : (state : State) (scan : Scanning) (query dimension : ℕ) → CanBuild query dimension state.lives → IsScannedAs state scan
    → IsScannedAs (after_build_wants query state) scan
scanned-wants state scan query dimension can = scanned-views state (after_build_wants query state) scan (views-wants state query dimension can)

-- nothing is kept any more for some statements
found-without : (pending : List Pending) (accepted : List Accepted) (lives : Lives) (slot : ℕ) (holder : Option ℕ)
    → found_by (without_groups pending accepted) lives slot holder ≡ found_by accepted lives slot holder
found-without [] accepted lives slot holder = refl
found-without (asked ∷ pending) accepted lives slot holder =
    found-without pending (map (forgotten asked.statement) accepted) lives slot holder
    ∙ found-kept (forgotten asked.statement) (forgets asked.statement) accepted lives slot holder

pub scanned-taking : (state : State) (scan : Scanning) (seat : ℕ) → IsScannedAs state scan → IsScannedAs (after_taking seat state) scan
scanned-taking state scan seat = scanned-stays state (after_taking seat state) scan refl refl
    (λ at low. asked-stays state.lives state.accepted (after_taking seat state).accepted at scan.running
    (found-without (take 1 (seat_at state seat).pending) state.accepted state.lives at (holder_of (slot_at state.lives at))))

-- a new scan has what runs in an empty core
pub scanned-empty : (settings : RunSettings) → IsScannedAs (empty_core settings) (new_scan settings.slots)
scanned-empty settings = record {
  position = refl;
  count = length-replicate settings.slots None ∙ sym (length-replicate settings.slots Free);
  slots = λ slot low.
      let many : length (replicate settings.slots Free) ≡ settings.slots = length-replicate settings.slots Free in
      let inside : slot < settings.slots = omega arith in
      subst (λ s. RunsBy [] (empty_core settings).lives slot (holder_of s) (get_or (replicate settings.slots None) slot None))
      (sym (get_or-replicate settings.slots slot Free Free inside))
      (subst (RunsBy [] (empty_core settings).lives slot None) (sym (get_or-replicate settings.slots slot None None inside)) tt);
}
