-- A scan that has what runs in a sound core cuts where the core cuts.
use Rattle.core_state.proofs.Words.{◌+◌, ◌<◌, ◌↔◌, ◌∙◌, ◌≡◌, ◌≤◌, ◌⊎◌, Accepted, accepted_at, ap, AreTablesOf, arith, Clearing, end_in, entry_of, false, filter_map, first_in, first_of, Free, get_or, get_or_default, Held, holder_of, inl, inr, is_some, IsKept, IsLeft, IsSameRun, IsScannedAs, IsSome, IsSound, KeyedStore, lap_start, length, length-map, life_at, life_of, List, list_any_at, Lives, MayCut, min, next_below, None, none-some, OnRoster, Option, option_and_then, option_map, option_map_or, place_in_lap, plain_version, QueryLife, range_with_len, refl, Running, running_at, RunsAs, Scanning, slot_at, SlotState, Some, start_at, start_in, State, Store, subst, sym, tables_of, true, versions_in, ℕ}
use Rattle.std.specs.Prelude.{fold}
use Rattle.pipeline_manager.specs.declared.life.Life.TheVariants as life
use Rattle.continuous_scan.specs.Calls.{AreInStep, CanCut, IsWithinTable, SlotInStep}
use Rattle.continuous_scan.specs.Lap.{IsInStep}
use Rattle.continuous_scan.specs.Range as scanned
use Rattle.continuous_scan.specs.Range.{some_run}
use Rattle.continuous_scan.proofs.EndLemmas.{lowered}
use Rattle.core_state.proofs.AcceptedLemmas.{holder-accepted, of-accepted}
use Rattle.core_state.proofs.CutRosterLemmas.{RunsIn, runs-here, runs-in, runs-there}
use Rattle.core_state.proofs.CutRunsLemmas.{Runs, left-of, life-runs, some-runs}
use Rattle.core_state.proofs.FoundLemmas.{life-entry, some-of}
use Rattle.core_state.proofs.FrameLemmas.{lives-as}
use Rattle.core_state.proofs.ScannedListLemmas.{same-end}
use Rattle.core_state.proofs.ScannedSlotLemmas.{runs-as}

-- how the holder of a slot stands on a roster, where it was accepted
abbrev pub found_by : List Accepted → Lives → (slot : ℕ) → (holder : Option ℕ) → Option OnRoster
found_by accepted lives slot holder = option_map (entry_of lives slot) (option_and_then (accepted_at accepted) holder)

-- who runs in a slot was accepted
runs-found : (state : State) (slot : ℕ) → IsSound state → slot < length state.lives.slots
    → IsSome (option_and_then start_in (life_at state.lives slot))
    → IsSome (found_by state.accepted state.lives slot (holder_of (slot_at state.lives slot)))
runs-found state slot sound low = by_slot (slot_at state.lives slot) refl
  where
    by_slot : (now : SlotState) → slot_at state.lives slot ≡ now
        → IsSome (option_and_then start_in (option_and_then (life_of state.lives) (holder_of now)))
        → IsSome (found_by state.accepted state.lives slot (holder_of now))
    by_slot Free is runs = runs
    by_slot (Held query built) is runs =
        ap (λ o. is_some (option_map (entry_of state.lives slot) o)) (holder-accepted state slot query built sound low is).1
    by_slot (Clearing left) is runs = runs

-- a slot in which nobody runs is one of which a scan has nothing
pub runs-none : (state : State) (slot : ℕ) (running : Option Running) → start_at state.lives slot ≡ None
    → RunsAs (life_at state.lives slot) (running_at state slot) running ↔ (running ≡ None)
runs-none state slot running none = subst
    (λ start. RunsAs (life_at state.lives slot)
    (option_and_then (λ s. found_by state.accepted state.lives slot (holder_of (slot_at state.lives slot))) start) running ↔ (running ≡ None))
    (sym none) (by_running running)
  where
    by_running : (o : Option Running) → RunsAs (life_at state.lives slot) None o ↔ (o ≡ None)
    by_running None = (λ fits. refl, λ is. tt)
    by_running (Some r) = (λ fits. absurd fits, λ is. absurd (none-some r (sym is)))

-- what a scan has in a slot in which a query runs: that query
pub record RunsHere (state : State) (slot : ℕ) (running : Option Running) : Type 0 where
  pub entry : OnRoster
  pub run : Running
  pub there : running ≡ Some run
  pub here : RunsIn state slot entry
  pub same : IsSameRun (life_at state.lives slot) entry run

-- nobody runs in a slot, or a query does
pub slot-cases : (state : State) (slot : ℕ) (running : Option Running) → IsSound state → slot < length state.lives.slots
    → RunsAs (life_at state.lives slot) (running_at state slot) running
    → ((start_at state.lives slot ≡ None) × (running ≡ None)) ⊎ RunsHere state slot running
slot-cases state slot running sound low fits = by_start (start_at state.lives slot) refl
  where
    by_running : (entry : OnRoster) → running_at state slot ≡ Some entry → (o : Option Running) → running ≡ o
        → RunsAs (life_at state.lives slot) (Some entry) o → RunsHere state slot running
    by_running entry is None there same = absurd same
    by_running entry is (Some r) there same = record { entry = entry; run = r; there = there; here = runs-in state slot entry is; same = same }

    by_start : (o : Option ℕ) → start_at state.lives slot ≡ o → ((start_at state.lives slot ≡ None) × (running ≡ None)) ⊎ RunsHere state slot running
    by_start None is = inl (is, (runs-none state slot running is).0 fits)
    by_start (Some start) is =
        let entry = some-of (found_by state.accepted state.lives slot (holder_of (slot_at state.lives slot))) (runs-found state slot sound low (ap is_some is)) in
        let runs : running_at state slot ≡ Some entry.0 =
        ap (option_and_then (λ s. found_by state.accepted state.lives slot (holder_of (slot_at state.lives slot)))) is ∙ entry.1 in
        inr (by_running entry.0 runs running refl (subst (λ o. RunsAs (life_at state.lives slot) o running) runs fits))

-- the tables with key numbers have as many versions
pub same-count : (state : State) (store : KeyedStore) → AreTablesOf state store → length store.versions ≡ versions_in state
same-count state store tables = sym (length-map store.versions plain_version) ∙ ap (λ (s : Store). length s.versions) tables.same

-- the first position, and the one behind the last
pub same-first : (state : State) (scan : Scanning) (store : KeyedStore) → IsScannedAs state scan → AreTablesOf state store
    → scanned.first_in (length store.versions) scan ≡ first_in state
same-first state scan store same tables =
    ap (λ position. first_of position (length store.versions)) same.position
    ∙ ap (first_of state.scan.position) (same-count state store tables)

same-starts : (state : State) (scan : Scanning) (slot : ℕ) → IsSound state → IsScannedAs state scan → slot < length state.lives.slots
    → start_at state.lives slot ≡ option_map (λ r. r.start) (get_or scan.running slot None)
same-starts state scan slot sound same low =
    elim (slot-cases state slot (get_or scan.running slot None) sound low (same.slots slot low)) [
      | inl none ↦ none.0 ∙ sym (ap (option_map (λ (r : Running). r.start)) none.1)
      | inr runs ↦ ap (option_and_then start_in) runs.same.life ∙ sym (ap (option_map (λ (r : Running). r.start)) runs.there)
    ]

pub same-last : (state : State) (scan : Scanning) (store : KeyedStore) → IsSound state → IsScannedAs state scan → AreTablesOf state store
    → scanned.end_in (length store.versions) state.settings.batch scan ≡ end_in state
same-last state scan store sound same tables =
    ap (λ first. scanned.end_of first (length store.versions) state.settings.batch scan.running) (same-first state scan store same tables)
    ∙ ap (λ count. scanned.end_of (first_in state) count state.settings.batch scan.running) (same-count state store tables)
    ∙ same-end (start_at state.lives) (first_in state) (min (first_in state + state.settings.batch) (versions_in state)) 0 scan.running
    (λ slot low. let at : 0 + slot ≡ slot = omega arith in let many = same.count in
    ap (start_at state.lives) at ∙ same-starts state scan slot sound same (omega arith))
    ∙ ap (λ n. fold (lowered (first_in state)) (min (first_in state + state.settings.batch) (versions_in state))
    (filter_map (start_at state.lives) (range_with_len 0 n))) same.count

-- some query runs in the scan
pub some-scanned : (state : State) (scan : Scanning) → MayCut state → IsSound state → IsScannedAs state scan → some_run scan.running ≡ true
some-scanned state scan can sound same =
    let some : Runs state = some-runs state can sound in
    let here = runs-here state sound some.entry.query some.start some.left (life-runs state some) in
    let asked = holder-accepted state here.0 some.entry.query here.1 sound here.2 here.3 in
    let many = same.count in
    let low = here.2 in
    list_any_at is_some scan.running here.0 None (omega arith)
    (runs-as (life_at state.lives here.0) (running_at state here.0) (get_or scan.running here.0 None) (same.slots here.0 here.2)
    ∙ ap (λ o. option_map_or (λ (e : OnRoster). true) o false)
    (runs-there state here.0 some.entry.query here.1 some.start some.left asked.0 here.3 (life-runs state some) asked.1))

-- a query that runs in the scan is in step with it, and its extent is within the table
runs-well : (state : State) (slot : ℕ) (entry : OnRoster) (r : Running) → IsSound state → RunsIn state slot entry
    → IsSameRun (life_at state.lives slot) entry r → IsInStep state.scan.position r × (r.extent ≤ versions_in state)
runs-well state slot entry r sound here same =
    let query = life-entry state.lives.queries here.accepted.number (life.Running r.start r.left)
    (ap (λ now. option_and_then (life_of state.lives) (holder_of now)) (sym here.held) ∙ same.life) in
    let extent : query.0.extent ≡ r.extent =
    ap (λ o. option_map_or (λ (e : QueryLife). e.extent) o 0) (sym query.1) ∙ ap (λ (e : OnRoster). e.extent) (sym here.is) ∙ sym same.extent in
    let was = lives-as state here.accepted (of-accepted state here.accepted.number here.accepted sound.queries here.found).0 query.0 query.1 in
    let kept : IsKept (tables_of state) state.seats state.scan here.accepted query.0.extent (life.Running r.start r.left) =
    subst (IsKept (tables_of state) state.seats state.scan here.accepted query.0.extent) query.2 was.0 in
    let left : IsLeft query.0.extent (life.Running r.start r.left) =
    subst (IsLeft query.0.extent) query.2 (left-of state sound here.accepted.number query.0 query.1) in
    let within : query.0.extent ≤ versions_in state = was.2 in (
      record {
        some = left.0;
        next = subst (λ e. place_in_lap (lap_start r.start e) e (next_below state.scan.position e) + r.left ≡ e) extent kept.next;
      },
      omega arith,
    )

-- the same of each slot
slot-well : (state : State) (scan : Scanning) (slot : ℕ) → IsSound state → IsScannedAs state scan → slot < length state.lives.slots
    → SlotInStep scan.position (get_or scan.running slot None) × IsWithinTable (versions_in state) (get_or scan.running slot None)
slot-well state scan slot sound same low =
    elim (slot-cases state slot (get_or scan.running slot None) sound low (same.slots slot low)) [
      | inl none ↦ subst (λ o. SlotInStep scan.position o × IsWithinTable (versions_in state) o) (sym none.1) (tt, tt)
      | inr runs ↦
          let well = runs-well state slot runs.entry runs.run sound runs.here runs.same in
          subst (λ o. SlotInStep scan.position o × IsWithinTable (versions_in state) o) (sym runs.there)
          (subst (λ position. IsInStep position runs.run) (sym same.position) well.0, well.1)
    ]

-- each query that runs in the scan is in step with it
pub scanned-in-step : (state : State) (scan : Scanning) → IsSound state → IsScannedAs state scan → AreInStep scan
scanned-in-step state scan sound same = λ slot d low.
    let inside : slot < length state.lives.slots = let many = same.count in omega arith in
    subst (SlotInStep scan.position) (get_or_default scan.running slot None d low) (slot-well state scan slot sound same inside).0

-- the scan may cut
pub scanned-can-cut : (state : State) (scan : Scanning) (store : KeyedStore) → IsSound state → IsScannedAs state scan → AreTablesOf state store
    → CanCut (length store.versions) state.settings.batch scan
scanned-can-cut state scan store sound same tables = record {
  some = sound.settings.batch;
  position = let stands = sound.scan.position in let at = same.position in let many = same-count state store tables in omega arith;
  within = λ slot d low.
      let inside : slot < length state.lives.slots = let many = same.count in omega arith in
      subst (λ n. IsWithinTable n (get_or scan.running slot d)) (sym (same-count state store tables))
      (subst (IsWithinTable (versions_in state)) (get_or_default scan.running slot None d low) (slot-well state scan slot sound same inside).1);
}
