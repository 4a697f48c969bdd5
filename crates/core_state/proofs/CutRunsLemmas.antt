-- Where a query runs, the scan cuts some versions of the table.
use Rattle.core_state.proofs.Words.{◌<◌, ◌∙◌, ◌≡◌, ◌≤◌, ap, arith, end_in, eqb, first_in, IsLeft, IsSound, Life, life_of, MayCut, query_in, QueryLife, refl, Some, starts_of, State, subst, versions_in, ℕ}
use Rattle.pipeline_manager.specs.Conditions.{IsRunning}
use Rattle.pipeline_manager.specs.declared.life.Life.TheVariants as life
use Rattle.pipeline_manager.proofs.QueryLemmas.{query_in-found}
use Rattle.continuous_scan.proofs.EndLemmas.{first_below}
use Rattle.core_state.proofs.AcceptedLemmas.{find-holds, holder-accepted}
use Rattle.core_state.proofs.CutRangeLemmas.{end-after, end-last}
use Rattle.core_state.proofs.CutRosterLemmas.{runs-here}
use Rattle.core_state.proofs.FoundLemmas.{life-found, some-at}

-- a query that runs, as it is found among the lives and the accepted queries
pub record Runs (state : State) : Type 0 where
  pub entry : QueryLife
  pub start : ℕ
  pub left : ℕ
  pub found : query_in state.lives.queries entry.query ≡ Some entry
  pub runs : entry.life ≡ life.Running start left

pub some-runs : (state : State) → MayCut state → IsSound state → Runs state
some-runs state can sound = by_life entry.life refl can.running.4
  where
    entry : QueryLife
    entry = can.running.1

    found : query_in state.lives.queries entry.query ≡ Some entry
    found =
        query_in-found state.lives.queries can.running.0 entry.query entry sound.slots.lives.rising can.running.2
        (ap (λ (e : QueryLife). e.query) can.running.3)
        ∙ ap Some can.running.3

    by_life : (now : Life) → entry.life ≡ now → IsRunning now → Runs state
    by_life (life.Running start left) is runs = record { entry = entry; start = start; left = left; found = found; runs = is }
    by_life other is runs = absurd runs

pub life-runs : (state : State) (some : Runs state) → life_of state.lives some.entry.query ≡ Some (life.Running some.start some.left)
life-runs state some = life-found state.lives.queries some.entry.query some.entry some.found ∙ ap Some some.runs

-- something is left of a query that runs, and no more than its extent
pub left-of : (state : State) → IsSound state → (query : ℕ) (entry : QueryLife) → query_in state.lives.queries query ≡ Some entry
    → IsLeft entry.extent entry.life
left-of state sound query entry found =
    find-holds (λ e. IsLeft e.extent e.life) (λ e. eqb e.query query) state.lives.queries entry found sound.slots.lives.left

-- where a query runs, the table has a version
pub some-versions : (state : State) → MayCut state → IsSound state → 1 ≤ versions_in state
some-versions state can sound =
    let some : Runs state = some-runs state can sound in
    let here = runs-here state sound some.entry.query some.start some.left (life-runs state some) in
    let asked = holder-accepted state here.0 some.entry.query here.1 sound here.2 here.3 in
    let within : some.entry.extent ≤ versions_in state =
    some-at (λ e. e.extent ≤ versions_in state) (query_in state.lives.queries asked.0.number) some.entry
    (ap (query_in state.lives.queries) asked.3 ∙ some.found) asked.2.within in
    let left : IsLeft some.entry.extent (life.Running some.start some.left) =
    subst (IsLeft some.entry.extent) some.runs (left-of state sound some.entry.query some.entry some.found) in
    let one = left.0 in
    let most = left.1 in
    omega arith

-- a cut begins before it ends, and ends within the table
pub record Cuts (state : State) : Type 0 where
  pub after : first_in state < end_in state
  pub last : end_in state ≤ versions_in state

pub cuts : (state : State) → MayCut state → IsSound state → Cuts state
cuts state can sound = record {
  after = end-after (first_in state) (versions_in state) state.settings.batch (starts_of state) sound.settings.batch
      (first_below state.scan.position (versions_in state) (some-versions state can sound) sound.scan.position);
  last = end-last (first_in state) (versions_in state) state.settings.batch (starts_of state);
}
