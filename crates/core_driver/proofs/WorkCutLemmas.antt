-- A cut leaves less work.
use Rattle.core_driver.proofs.Words.{◌+◌, ◌-◌, ◌<◌, ◌∙◌, ◌≡◌, ◌≤◌, ◌⊎◌, after_cutting, all_to_cut, ap, arith, covered, covered-same, cut_flight, cut_query, Cuts, cuts, end_in, first_cases, first_in, get_or, inl, inr, IsLeft, IsRunning, IsSound, length, Life, map, MayCut, QueryLife, refl, State, steps_to_free, subst, sum_by, sym, versions_in, work_in, ℕ, ⊎_elim}
use Rattle.std.proofs.lemmas.List.{length_push}
use Rattle.pipeline_manager.specs.declared.life.Life.TheVariants as life
use Rattle.core_driver.proofs.WorkLifeLemmas.{cut-leaves, cut-less, steps_in}
use Rattle.core_driver.proofs.WorkNumberLemmas.{cut-falls, work_of}

-- how a query runs
record RunsSo (now : Life) : Type 0 where
  start : ℕ
  left : ℕ
  is : now ≡ life.Running start left

-- a query that runs does so from somewhere
runs-so : (now : Life) → IsRunning now → RunsSo now
runs-so (life.Running start left) runs = record { start = start; left = left; is = refl }
runs-so other runs = absurd runs

-- what is to be cut behind a cut
abbrev cut_after : State → ℕ
cut_after state = all_to_cut (map (cut_query (first_in state) (end_in state - 1)) state.lives.queries)

-- a cut from the first position on takes one of each query that runs
less-from-start : (state : State) → MayCut state → IsSound state → first_in state ≡ 0 → cut_after state < all_to_cut state.lives.queries
less-from-start state can sound begins =
    cut-less (first_in state) (end_in state - 1) state.lives.queries place entry runs.start runs.left can.running.2
    (ap (λ (e : QueryLife). e.life) can.running.3 ∙ runs.is) (let some = left.0 in omega arith) takes
  where
    place : ℕ
    place = can.running.0

    entry : QueryLife
    entry = can.running.1

    runs : RunsSo entry.life
    runs = runs-so entry.life can.running.4

    left : IsLeft entry.extent (life.Running runs.start runs.left)
    left = subst (IsLeft entry.extent) runs.is
        (subst (λ (e : QueryLife). IsLeft e.extent e.life) can.running.3 (sound.slots.lives.left place entry can.running.2))

    takes : 0 < covered (first_in state) (end_in state - 1) (get_or state.lives.queries place entry).extent
    takes =
        let range : Cuts state = cuts state can sound in
        let same = covered-same (first_in state) (end_in state) entry.extent range.after in
        let after = range.after in
        let one = left.0 in
        let most = left.1 in
        subst (λ (e : QueryLife). 0 < covered (first_in state) (end_in state - 1) e.extent) (sym can.running.3) (omega arith)

-- a cut leaves less to be cut, or the scan comes nearer to the last version
nearer : (state : State) → MayCut state → IsSound state
    → (cut_after state < all_to_cut state.lives.queries)
    ⊎ ((cut_after state ≤ all_to_cut state.lives.queries) × (state.scan.position < end_in state))
nearer state can sound = ⊎_elim
    (λ behind. inl (less-from-start state can sound behind.1))
    (λ inside. inr (
      (cut-leaves (first_in state) (end_in state - 1) state.lives.queries).0,
      subst (λ first. first < end_in state) inside.1 (cuts state can sound).after,
    ))
    (first_cases state.scan.position (versions_in state))

-- so a cut leaves less work
pub work-cut : (state : State) → MayCut state → IsSound state → work_in (after_cutting state) < work_in state
work-cut state can sound =
    let range : Cuts state = cuts state can sound in
    let after = range.after in
    let last = range.last in
    let leaves = cut-leaves (first_in state) (end_in state - 1) state.lives.queries in
    let falls = cut-falls (all_to_cut state.lives.queries) (cut_after state) (versions_in state) state.scan.position (end_in state)
    (steps_in state.lives.queries) (sum_by steps_to_free state.lives.slots) (length state.scan.flights)
    sound.scan.position last (omega arith) (nearer state can sound) in
    let more = length_push state.scan.flights (cut_flight state) in
    let steps = leaves.1 in
    let same : work_in (after_cutting state) ≡ work_of (cut_after state) (versions_in state) (end_in state)
    (steps_in state.lives.queries) (sum_by steps_to_free state.lives.slots) (length state.scan.flights + 1) =
    ap (λ run. work_of (cut_after state) (versions_in state) (end_in state) run (sum_by steps_to_free state.lives.slots) (length (after_cutting state).scan.flights)) steps
    ∙ ap (λ flights. work_of (cut_after state) (versions_in state) (end_in state) (steps_in state.lives.queries) (sum_by steps_to_free state.lives.slots) flights) more in
    subst (λ work. work < work_in state) (sym same) falls
