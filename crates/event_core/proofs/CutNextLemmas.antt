-- Where the core may cut, its parts may: a frame is free, and each query that runs has as much left as the cut covers.
use Rattle.event_core.proofs.Words.{◌*◌, ◌+◌, ◌-◌, ◌<◌, ◌∙◌, ◌≡◌, ◌≢◌, ◌≤◌, [], Accepted, accepted_at, All, ap, arith, CanCut, CanCutNext, CanTestAll, CoreParts, end_in, entry_of, eqb, eqb-true, extent_in, false, find-passes, first_in, flight_as, frame_words, frames_of, get_or, Held, held-accepted, holder_of, IsCore, IsScannedAs, IsSome, IsSound, IsTrue, known_in, length, length-map, Life, life_at, life_of, List, MayCut, None, Option, option_and_then, option_map_or, query_in, QueryLife, reaches_in, refl, Running, Scanning, slice_get, slice_get-get_or, slot_at, Some, some_run, State, state_of, subst, sym, true, ℕ}
use Rattle.batch_flow.specs.declared.batch.TheConstants.{KEYS_IN_A_ROW}
use Rattle.pipeline_manager.specs.Changes as managed
use Rattle.pipeline_manager.specs.Conditions as conditions
use Rattle.pipeline_manager.specs.Conditions.{HasLeft}
use Rattle.pipeline_manager.specs.declared.life.Life.TheVariants as life
use Rattle.pipeline_manager.proofs.QueryLemmas.{query_in-found}
use Rattle.continuous_scan.specs.Calls.{AreInStep}
use Rattle.continuous_scan.specs.Range.{IsNearest, covered}
use Rattle.core_state.specs.Scanned.{RunsAs}
use Rattle.core_state.proofs.CutLapLemmas.{covered-same}
use Rattle.core_state.proofs.CutRosterLemmas.{runs-here, runs-there}
use Rattle.core_state.proofs.FoundLemmas.{life-found}

-- a cut takes no more of a query's extent than is left of it
abbrev pub LeftLaw : Type 0
LeftLaw = (scan : Scanning) (rows size slot : ℕ) (query : Running) → AreInStep scan → CanCut rows size scan
    → slice_get scan.running slot ≡ Some (Some query) → covered (first_in rows scan) (end_in rows size scan) query.extent ≤ query.left

-- as much is left of a query that runs as the cut covers
enough-of : LeftLaw → (state : State) (scan : Scanning) (rows size : ℕ) → IsSound state → IsScannedAs state scan → AreInStep scan
    → CanCut rows size scan → first_in rows scan < end_in rows size scan → (entry : QueryLife)
    → query_in state.lives.queries entry.query ≡ Some entry
    → HasLeft (managed.covered (first_in rows scan) (end_in rows size scan - 1) entry.extent) entry.life
enough-of law state scan rows size sound same in_step can after entry found = by_life entry.life refl
  where
    by_run : (slot start left : ℕ) (accepted : Accepted) → slot < length scan.running → accepted.number ≡ entry.query
        → life_at state.lives slot ≡ Some (life.Running start left)
        → (o : Option Running) → get_or scan.running slot None ≡ o
        → RunsAs (life_at state.lives slot) (Some (entry_of state.lives slot accepted)) o
        → managed.covered (first_in rows scan) (end_in rows size scan - 1) entry.extent ≤ left
    by_run slot start left accepted low number now None is fits = absurd fits
    by_run slot start left accepted low number now (Some r) is fits =
        let both : Some (life.Running r.start r.left) ≡ Some (life.Running start left) = sym fits.life ∙ now in
        let same_left : r.left ≡ left = cc in
        let extent : r.extent ≡ entry.extent = fits.extent ∙ ap (extent_in state.lives.queries) number
        ∙ ap (λ o. option_map_or (λ (e : QueryLife). e.extent) o 0) found in
        let there : slice_get scan.running slot ≡ Some (Some r) = slice_get-get_or scan.running slot None low ∙ ap Some is in
        let most : covered (first_in rows scan) (end_in rows size scan) r.extent ≤ r.left = law scan rows size slot r in_step can there in
        let more : covered (first_in rows scan) (end_in rows size scan) entry.extent ≤ r.left =
        subst (λ e. covered (first_in rows scan) (end_in rows size scan) e ≤ r.left) extent most in
        subst (λ n. n ≤ left) (sym (covered-same (first_in rows scan) (end_in rows size scan) entry.extent after))
        (subst (λ n. covered (first_in rows scan) (end_in rows size scan) entry.extent ≤ n) same_left more)

    by_accepted : (slot built start left : ℕ) → slot < length state.lives.slots → slot_at state.lives slot ≡ Held entry.query built
        → life_of state.lives entry.query ≡ Some (life.Running start left) → (o : Option Accepted)
        → accepted_at state.accepted entry.query ≡ o → IsSome o
        → managed.covered (first_in rows scan) (end_in rows size scan - 1) entry.extent ≤ left
    by_accepted slot built start left low held runs None is some = absurd (let both : false ≡ true = some in cc)
    by_accepted slot built start left low held runs (Some accepted) is some =
        by_run slot start left accepted (let many = same.count in omega arith)
        (eqb-true accepted.number entry.query (find-passes (λ a. eqb a.number entry.query) state.accepted accepted is))
        (ap (λ now. option_and_then (life_of state.lives) (holder_of now)) held ∙ runs)
        (get_or scan.running slot None) refl
        (subst (λ o. RunsAs (life_at state.lives slot) o (get_or scan.running slot None))
        (runs-there state slot entry.query built start left accepted held runs is) (same.slots slot low))

    by_life : (now : Life) → entry.life ≡ now → HasLeft (managed.covered (first_in rows scan) (end_in rows size scan - 1) entry.extent) now
    by_life (life.Running start left) is =
        let runs : life_of state.lives entry.query ≡ Some (life.Running start left) =
        life-found state.lives.queries entry.query entry found ∙ ap Some is in
        let here : (slot : ℕ) × (built : ℕ) × (slot < length state.lives.slots) × (slot_at state.lives slot ≡ Held entry.query built) =
        runs-here state sound entry.query start left runs in
        by_accepted here.0 here.1 start left here.2 here.3 runs (accepted_at state.accepted entry.query) refl
        (held-accepted state here.0 entry.query here.1 sound here.2 here.3)
    by_life other is = tt

-- the lives of the queries may go on by a cut
lives-cut : LeftLaw → (state : State) (scan : Scanning) (rows size : ℕ) → MayCut state → IsSound state → IsScannedAs state scan
    → AreInStep scan → CanCut rows size scan → first_in rows scan < end_in rows size scan
    → conditions.CanCutRange (first_in rows scan) (end_in rows size scan - 1) state.lives
lives-cut law state scan rows size may sound same in_step can after = record {
  running = may.running;
  in_order = omega arith;
  enough = λ k d low. enough-of law state scan rows size sound same in_step can after (get_or state.lives.queries k d)
      (query_in-found state.lives.queries k (get_or state.lives.queries k d).query d sound.slots.lives.rising low refl);
}

-- where a frame is free, the list of them is not empty
some-inside : (inside : List (List ℕ)) → 0 < length inside → inside ≢ []
some-inside inside some none = let count : length inside ≡ 0 = ap length none in omega arith

-- a batch may be cut
pub can-cut-next : LeftLaw → (parts : CoreParts) → IsCore parts → MayCut (state_of parts)
    → AreInStep parts.scan × CanCut (length parts.tables.versions) parts.settings.batch parts.scan
    → All (CanTestAll parts.scan.running) parts.tables.versions
    → parts.settings.batch * (1 + KEYS_IN_A_ROW) ≤ frame_words (state_of parts)
    → IsTrue (some_run parts.scan.running)
    → IsNearest (first_in (length parts.tables.versions) parts.scan) (length parts.tables.versions) parts.settings.batch parts.scan.running
    (end_in (length parts.tables.versions) parts.settings.batch parts.scan)
    → CanCutNext parts
can-cut-next law parts core may can tests room runs nearest = record {
  into = record {
    frame = some-inside parts.pool.inside may.frame;
    room = subst (λ n. parts.settings.batch * (1 + KEYS_IN_A_ROW) ≤ n) (sym core.words) room;
    can = can.1;
    tests = tests;
  };
  runs = runs;
  first = nearest.after;
  last = nearest.last;
  lives = lives-cut law (state_of parts) parts.scan (length parts.tables.versions) parts.settings.batch may core.sound core.scanned
      can.0 can.1 nearest.after;
  few =
      let frames : length parts.pool.inside + length (state_of parts).scan.flights ≡ frames_of parts.settings = core.sound.scan.frames in
      let flown : length (state_of parts).scan.flights ≡ length parts.flights =
      length-map parts.flights (flight_as (known_in parts.asked) (reaches_in parts.lives.queries)) in
      let frame : 0 < length parts.pool.inside = may.frame in
      omega arith;
}
