-- Behind a cut a scan has what runs in the core behind that cut.
use Rattle.core_state.proofs.Words.{◌-◌, ◌<◌, ◌∙◌, ◌≡◌, after_cutting, ap, AreTablesOf, arith, Bool, cond, cut_life, cut_query, cut_slot, end_in, eqb, extent_in, false, first_in, get_or, get_or-map, holder_of, inl, inr, IsScannedAs, IsSound, KeyedStore, length, length-map, Life, life_at, life_in-cut, life_of, Lives, map, MayCut, None, none-some, OnRoster, Option, option_and_then, option_map, option_map_or, query_in, QueryLife, refl, Running, running_at, RunsAs, Scanning, slot_at, Some, start_in, started, State, subst, sym, true, ℕ}
use Rattle.pipeline_manager.specs.Changes as managed
use Rattle.pipeline_manager.specs.declared.life.Life.TheVariants as life
use Rattle.continuous_scan.specs.Range as scanned
use Rattle.continuous_scan.specs.Range.{covered}
use Rattle.core_state.proofs.CutLapLemmas.{covered-same}
use Rattle.core_state.proofs.CutLifeLemmas.{cut-cases}
use Rattle.core_state.proofs.CutRosterLemmas.{RunsIn, runs-there}
use Rattle.core_state.proofs.CutRunsLemmas.{cuts}
use Rattle.core_state.proofs.FoundLemmas.{life-entry}
use Rattle.core_state.proofs.FoundLemmas.{extents-stay}
use Rattle.core_state.proofs.ScannedRunLemmas.{RunsHere, runs-none, same-first, same-last, slot-cases, some-scanned}

-- the core whose lives are cut
abbrev cut_at : (first end : ℕ) → State → State
cut_at first end state = record state { lives = managed.after_cut first (end - 1) state.lives }

-- who does not run does not run behind a cut
none-cut : (first last : ℕ) (lives : Lives) (holder : Option ℕ) → option_and_then start_in (option_and_then (life_of lives) holder) ≡ None
    → option_and_then start_in (option_and_then (life_of (managed.after_cut first last lives)) holder) ≡ None
none-cut first last lives None none = refl
none-cut first last lives (Some query) none =
    ap (option_and_then start_in) (life_in-cut first last lives.queries query) ∙ by_query (query_in lives.queries query) none
  where
    by_query : (o : Option QueryLife) → option_and_then start_in (option_map (λ (e : QueryLife). e.life) o) ≡ None
        → option_and_then start_in (option_map (λ (e : QueryLife). cut_life (managed.covered first last e.extent) e.life) o) ≡ None
    by_query None rests = refl
    by_query (Some entry) rests = cut-cases (λ now later. start_in now ≡ None → start_in later ≡ None) (λ now h. h) (λ start left h. refl)
        (λ start left less h. absurd (none-some start (sym h))) (managed.covered first last entry.extent) entry.life rests

-- a query that runs in a slot has less left behind a cut, or ends
runs-cut : (state : State) (slot : ℕ) (running : Option Running) (first end : ℕ) → first < end → RunsHere state slot running
    → RunsAs (life_at (cut_at first end state).lives slot) (running_at (cut_at first end state) slot) (cut_slot first end running)
runs-cut state slot running first end after runs =
    subst (λ o. RunsAs (life_at later.lives slot) (running_at later slot) (cut_slot first end o)) (sym runs.there) (by_test (eqb rest 0) refl)
  where
    here : RunsIn state slot runs.entry
    here = runs.here

    r : Running
    r = runs.run

    number : ℕ
    number = here.accepted.number

    later : State
    later = cut_at first end state

    rest : ℕ
    rest = r.left - covered first end r.extent

    extent : extent_in state.lives.queries number ≡ r.extent
    extent = ap (λ (e : OnRoster). e.extent) (sym here.is) ∙ sym runs.same.extent

    life_is : life_of later.lives number ≡ Some (started r.start rest)
    life_is =
        let entry = life-entry state.lives.queries number (life.Running r.start r.left)
        (ap (λ s. option_and_then (life_of state.lives) (holder_of s)) (sym here.held) ∙ runs.same.life) in
        life_in-cut first (end - 1) state.lives.queries number
        ∙ ap (option_map (λ (e : QueryLife). cut_life (managed.covered first (end - 1) e.extent) e.life)) entry.1
        ∙ ap (λ now. Some (cut_life (managed.covered first (end - 1) entry.0.extent) now)) entry.2
        ∙ ap (λ n. Some (started r.start (r.left - n))) (covered-same first end entry.0.extent after
        ∙ ap (covered first end) (ap (λ o. option_map_or (λ (e : QueryLife). e.extent) o 0) (sym entry.1) ∙ extent))

    by_test : (t : Bool) → eqb rest 0 ≡ t
        → RunsAs (life_at later.lives slot) (running_at later slot) (cond {A = Option Running} t None (Some (record r { left = rest })))
    by_test true is = (runs-none later slot None (ap (λ s. option_and_then start_in (option_and_then (life_of later.lives) (holder_of s))) here.held
        ∙ ap (option_and_then start_in) life_is ∙ ap (λ t. start_in (cond {A = Life} t life.Ending (life.Running r.start rest))) is)).1 refl
    by_test false is =
        let now : life_of later.lives number ≡ Some (life.Running r.start rest) =
        life_is ∙ ap (λ t. Some (cond {A = Life} t life.Ending (life.Running r.start rest))) is in
        subst (λ o. RunsAs (life_at later.lives slot) o (Some (record r { left = rest })))
        (sym (runs-there later slot number here.built r.start rest here.accepted here.held now here.found)) (record {
          query = runs.same.query ∙ ap (λ (e : OnRoster). e.query) here.is;
          snapshot = runs.same.snapshot ∙ ap (λ (e : OnRoster). e.snapshot) here.is;
          extent = sym (extents-stay (cut_query first (end - 1)) (λ entry. refl) (λ entry. refl) state.lives.queries number ∙ extent);
          life = ap (λ s. option_and_then (life_of later.lives) (holder_of s)) here.held ∙ now;
        })

-- a scan behind a cut of these positions
abbrev cut_scan : (first end : ℕ) → Scanning → Scanning
cut_scan first end scan = record { position = end; running = map (cut_slot first end) scan.running }

pub scanned-cut : (state : State) (scan : Scanning) (store : KeyedStore) → MayCut state → IsSound state → IsScannedAs state scan
    → AreTablesOf state store
    → IsScannedAs (after_cutting state) (scanned.after_cut (length store.versions) state.settings.batch scan)
scanned-cut state scan store can sound same tables = subst (IsScannedAs (after_cutting state)) (sym is) (record {
  position = refl;
  count = length-map scan.running (cut_slot (first_in state) (end_in state)) ∙ same.count;
  slots = λ slot low.
      let inside : slot < length scan.running = let many = same.count in omega arith in
      subst (RunsAs (life_at (after_cutting state).lives slot) (running_at (after_cutting state) slot))
      (sym (get_or-map (cut_slot (first_in state) (end_in state)) scan.running slot None None inside))
      (elim (slot-cases state slot (get_or scan.running slot None) sound low (same.slots slot low)) [
        | inl none ↦ subst (λ o. RunsAs (life_at (after_cutting state).lives slot) (running_at (after_cutting state) slot)
            (cut_slot (first_in state) (end_in state) o)) (sym none.1) ((runs-none (after_cutting state) slot None
            (none-cut (first_in state) (end_in state - 1) state.lives (holder_of (slot_at state.lives slot)) none.0)).1 refl)
        | inr runs ↦ runs-cut state slot (get_or scan.running slot None) (first_in state) (end_in state) (cuts state can sound).after runs
      ]);
})
  where
    is : scanned.after_cut (length store.versions) state.settings.batch scan ≡ cut_scan (first_in state) (end_in state) scan
    is =
        ap (λ t. cond {A = Scanning} t
        (cut_scan (scanned.first_in (length store.versions) scan) (scanned.end_in (length store.versions) state.settings.batch scan) scan) scan)
        (some-scanned state scan can sound same)
        ∙ ap (λ first. cut_scan first (scanned.end_in (length store.versions) state.settings.batch scan) scan) (same-first state scan store same tables)
        ∙ ap (λ end. cut_scan (first_in state) end scan) (same-last state scan store sound same tables)
