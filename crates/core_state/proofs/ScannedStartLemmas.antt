-- A scan starts what the core starts.
use Rattle.core_state.proofs.Words.{◌<◌, ◌∙◌, ◌≡◌, ◌≢◌, ◌≤◌, Accepted, accepted_at, after_start, ap, AreTablesOf, arith, Bool, CanRun, cond, eq-eqb, eqb, extent_in, false, first_of, get_or, Held, holder_of, IsScannedAs, IsSound, KeyedStore, length, Life, life_at, life_in, life_in-same, life_of, Lives, ne_eqb, None, option_and_then, option_map, option_map_or, query_of, QueryLife, refl, renewed, renewed-number, Running, RunsAs, Scanning, slice_get-get_or, slot_at, slot_of, Some, start_in, State, subst, sym, true, versions_in, ℕ}
use Rattle.star_plan.specs.declared.star_query.StarQuery.{StarQuery}
use Rattle.pipeline_manager.specs.declared.life.Life.TheVariants as life
use Rattle.continuous_scan.specs.Calls.{CanStart}
use Rattle.continuous_scan.specs.Range as scanned
use Rattle.core_state.proofs.AcceptedLemmas.{of-accepted}
use Rattle.core_state.proofs.CutRosterLemmas.{holds-slot, runs-there}
use Rattle.core_state.proofs.FoundLemmas.{accepted-number, extents-stay, life-entry}
use Rattle.core_state.proofs.FrameLemmas.{lives-as}
use Rattle.core_state.proofs.ScannedLifeLemmas.{lives_with, start-none, start-written, state_with}
use Rattle.core_state.proofs.ScannedRunLemmas.{runs-none, same-count}
use Rattle.core_state.proofs.ViewLemmas.{scanned-none, scanned-set}
use Rattle.core_state.proofs.ViewEventLemmas.{views-at}

-- another life leaves the extent
renewed-extent : (query : ℕ) (new : Life) (entry : QueryLife) → (renewed query new entry).extent ≡ entry.extent
renewed-extent query new entry = by_test (eqb entry.query query)
  where
    by_test : (t : Bool) → (cond {A = QueryLife} t (record entry { life = new }) entry).extent ≡ entry.extent
    by_test true = refl
    by_test false = refl

-- the scan has what runs in the core once a query runs
pub scanned-start : (state : State) (scan : Scanning) (store : KeyedStore) (query slot : ℕ) (accepted : Accepted) (asked : StarQuery)
    → IsSound state → CanRun query state.lives → IsScannedAs state scan → AreTablesOf state store
    → slot_of state.lives query ≡ Some slot → accepted_at state.accepted query ≡ Some accepted → query_of asked ≡ accepted.query
    → extent_in state.lives.queries query ≢ 0
    → IsScannedAs (after_start query state)
    (scanned.after_start slot asked accepted.snapshot (extent_in state.lives.queries query) (length store.versions) scan)
scanned-start state scan store query slot accepted asked sound can same tables place found is some =
    subst (λ t. IsScannedAs (state_with query (cond {A = Life} t life.Ending now) state)
    (scanned.after_start slot asked accepted.snapshot extent (length store.versions) scan)) (sym (ne_eqb extent 0 some))
    (scanned-set state (state_with query now state) scan slot (Some started) (views-at state query slot now sound place)
    (subst (λ entry. RunsAs (life_at later slot) entry (Some started))
    (sym (runs-there (state_with query now state) slot query held.0 start extent accepted held.2 runs found)) (record {
      query = is;
      snapshot = refl;
      extent = ap (extent_in state.lives.queries) (sym (accepted-number state.accepted query accepted found))
          ∙ sym (extents-stay (renewed query now) (renewed-number query now) (renewed-extent query now) state.lives.queries accepted.number);
      life = ap (λ s. option_and_then (life_of later) (holder_of s)) held.2 ∙ runs ∙ ap (λ s. Some (life.Running s extent)) (sym from);
    })) same)
  where
    extent : ℕ
    extent = extent_in state.lives.queries query

    start : ℕ
    start = first_of state.scan.position (versions_in state)

    now : Life
    now = life.Running start extent

    later : Lives
    later = lives_with query now state.lives

    started : Running
    started = record {
      query = asked;
      snapshot = accepted.snapshot;
      extent = extent;
      start = first_of scan.position (length store.versions);
      left = extent;
    }

    held : (built : ℕ) × (slot < length state.lives.slots) × (slot_at state.lives slot ≡ Held query built)
    held = holds-slot state.lives query slot place

    runs : life_of later query ≡ Some now
    runs = life_in-same state.lives.queries query now ∙ ap (option_map (λ (old : Life). now)) can.building

    from : first_of scan.position (length store.versions) ≡ start
    from = ap (λ position. first_of position (length store.versions)) same.position ∙ ap (first_of state.scan.position) (same-count state store tables)

-- a query of which nothing is to come does not run
pub scanned-start-none : (state : State) (scan : Scanning) (query slot : ℕ) → IsSound state → CanRun query state.lives → IsScannedAs state scan
    → slot_of state.lives query ≡ Some slot → extent_in state.lives.queries query ≡ 0 → IsScannedAs (after_start query state) scan
scanned-start-none state scan query slot sound can same place none =
    subst (λ t. IsScannedAs (state_with query (cond {A = Life} t life.Ending (life.Running start extent)) state) scan) (sym (eq-eqb extent 0 none))
    (scanned-none state (state_with query life.Ending state) scan slot (views-at state query slot life.Ending sound place)
    (start-none state.lives query slot place (ap (option_and_then start_in) can.building))
    (start-written state.lives query slot life.Ending place refl) same)
  where
    extent : ℕ
    extent = extent_in state.lives.queries query

    start : ℕ
    start = first_of state.scan.position (versions_in state)

-- the query may start in the scan
pub scanned-can-start : (state : State) (scan : Scanning) (store : KeyedStore) (query slot : ℕ) (accepted : Accepted)
    → IsSound state → CanRun query state.lives → IsScannedAs state scan → AreTablesOf state store
    → slot_of state.lives query ≡ Some slot → accepted_at state.accepted query ≡ Some accepted → extent_in state.lives.queries query ≢ 0
    → CanStart slot (extent_in state.lives.queries query) (length store.versions) scan
scanned-can-start state scan store query slot accepted sound can same tables place found some = record {
  is_free = slice_get-get_or scan.running slot None (let low = held.1 in let many = same.count in omega arith)
      ∙ ap Some ((runs-none state slot (get_or scan.running slot None)
      (start-none state.lives query slot place (ap (option_and_then start_in) can.building))).0 (same.slots slot held.1));
  some = omega arith;
  within = let many = same-count state store tables in let fits = within in omega arith;
  position = let many = same-count state store tables in let stands = sound.scan.position in let at = same.position in omega arith;
}
  where
    held : (built : ℕ) × (slot < length state.lives.slots) × (slot_at state.lives slot ≡ Held query built)
    held = holds-slot state.lives query slot place

    within : extent_in state.lives.queries query ≤ versions_in state
    within =
        let of = of-accepted state query accepted sound.queries found in
        let entry = life-entry state.lives.queries accepted.number life.Building (ap (life_in state.lives.queries) of.1 ∙ can.building) in
        let fits = (lives-as state accepted of.0 entry.0 entry.1).2 in
        let extent : extent_in state.lives.queries query ≡ entry.0.extent =
        ap (extent_in state.lives.queries) (sym of.1) ∙ ap (λ o. option_map_or (λ (e : QueryLife). e.extent) o 0) entry.1 in
        omega arith
