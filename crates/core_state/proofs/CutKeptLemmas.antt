-- What is covered of each query behind a cut.
use Rattle.core_state.proofs.Words.{◌++◌, ◌-◌, ◌∙◌, ◌∷◌, ◌≡◌, ◌≢◌, ◌≤◌, [], Accepted, ap, append-nil, append_assoc, arith, below, Bool, cond, cut_life, end_in, eqb, eqb-false, eqb-true, false, find, first_in, flat_map, Flight, IsCovered, IsKept, IsNext, IsPermutation, IsSome, IsSound, lap, Life, life_of, List, None, option_map, option_map_or, positions_for, query_in, range_with_len, refl, ScanState, Some, starts_of, State, still_to_come, subst, sym, tables_of, to_come, true, versions_in, ℕ}
use Rattle.std.proofs.lemmas.List.{flat_map_more}
use Rattle.pipeline_manager.specs.Changes as managed
use Rattle.pipeline_manager.specs.declared.life.Life.TheVariants as life
use Rattle.continuous_scan.specs.Range.{covered}
use Rattle.continuous_scan.proofs.StepLemmas.{CutsLap, cut_next}
use Rattle.core_state.proofs.CutLapLemmas.{covered-same, cut-comes, none-to-come}
use Rattle.core_state.proofs.CutRangeLemmas.{end-to-start}
use Rattle.core_state.proofs.CutRosterLemmas.{off-roster, on-roster, start-among}
use Rattle.core_state.proofs.CutRowsLemmas.{cut_flight}
use Rattle.core_state.proofs.CutRunsLemmas.{Cuts, left-of}
use Rattle.core_state.proofs.FoundLemmas.{some-of}

-- what a cut does along the lap of a query that runs
cuts-lap : (state : State) → IsSound state → Cuts state → (query extent start left : ℕ)
    → query_in state.lives.queries query ≡ Some (record { query = query; extent = extent; life = life.Running start left })
    → extent ≤ versions_in state → IsNext state.scan.position extent (life.Running start left)
    → CutsLap state.scan.position (versions_in state) (first_in state) (end_in state) extent start left
cuts-lap state sound range query extent start left found within next = record {
  some = (left-of state sound query (record { query = query; extent = extent; life = life.Running start left }) found).0;
  next = next;
  extent_within = within;
  position_within = sound.scan.position;
  first_is = refl;
  after = range.after;
  last = range.last;
  to_start = end-to-start (first_in state) (versions_in state) state.settings.batch (starts_of state) start
      (start-among state sound query start left (ap (option_map (λ e. e.life)) found));
}

-- what is covered stays so where what is in flight and what is to come are together what they were
covered-cut : (state : State) (scan : ScanState) (accepted : Accepted) (extent : ℕ) (before now : Life)
    → flat_map (positions_for accepted.number extent) state.scan.flights ++ to_come extent before
    ≡ flat_map (positions_for accepted.number extent) scan.flights ++ to_come extent now
    → IsNext scan.position extent now → IsCovered (tables_of state) state.scan accepted extent before
    → IsCovered (tables_of state) scan accepted extent now
covered-cut state scan accepted extent before now same next old = record {
  folded = old.folded;
  each_once = subst (λ positions. IsPermutation positions (range_with_len 0 extent))
      (append_assoc old.folded (flat_map (positions_for accepted.number extent) state.scan.flights) (to_come extent before)
      ∙ ap (λ rest. old.folded ++ rest) same
      ∙ sym (append_assoc old.folded (flat_map (positions_for accepted.number extent) scan.flights) (to_come extent now)))
      old.each_once;
  next = next;
  groups = old.groups;
}

-- the positions of the batch that is cut, for a query that is on its roster, and for one that is not
positions-on : (query extent : ℕ) (flight : Flight) → IsSome (find (λ entry. eqb entry.number query) flight.roster)
    → positions_for query extent flight ≡ below extent (range_with_len flight.rows.first flight.rows.count)
positions-on query extent flight on =
    ap (λ o. option_map_or (λ entry. below extent (range_with_len flight.rows.first flight.rows.count)) o [])
    (some-of (find (λ entry. eqb entry.number query) flight.roster) on).1

positions-off : (query extent : ℕ) (flight : Flight) → find (λ entry. eqb entry.number query) flight.roster ≡ None
    → positions_for query extent flight ≡ []
positions-off query extent flight off =
    ap (λ o. option_map_or (λ entry. below extent (range_with_len flight.rows.first flight.rows.count)) o []) off

-- the batches in flight with the one that is cut
abbrev pub flights_after : State → List Flight
flights_after state = state.scan.flights ++ cut_flight state ∷ []

-- how much of an extent a cut covers
abbrev pub covered_of : State → (extent : ℕ) → ℕ
covered_of state extent = managed.covered (first_in state) (end_in state - 1) extent

-- of a query that does not run, the batch that is cut has no positions
flown-off : (state : State) (query extent : ℕ) → ((start left : ℕ) → life_of state.lives query ≢ Some (life.Running start left))
    → flat_map (positions_for query extent) (flights_after state) ≡ flat_map (positions_for query extent) state.scan.flights
flown-off state query extent never =
    sym (flat_map_more (positions_for query extent) [] state.scan.flights (cut_flight state))
    ∙ ap (λ xs. flat_map (positions_for query extent) state.scan.flights ++ xs) (positions-off query extent (cut_flight state) (off-roster state query never))
    ∙ append-nil (flat_map (positions_for query extent) state.scan.flights)

-- of a query that runs it has those that were to come
flown-on : (state : State) → IsSound state → (query extent start left : ℕ) → life_of state.lives query ≡ Some (life.Running start left)
    → CutsLap state.scan.position (versions_in state) (first_in state) (end_in state) extent start left
    → flat_map (positions_for query extent) state.scan.flights ++ still_to_come left (lap start extent)
    ≡ flat_map (positions_for query extent) (flights_after state)
    ++ still_to_come (left - covered (first_in state) (end_in state) extent) (lap start extent)
flown-on state sound query extent start left runs along =
    let before : List ℕ = flat_map (positions_for query extent) state.scan.flights in
    let here : List ℕ = below extent (range_with_len (first_in state) (end_in state - first_in state)) in
    let rest : List ℕ = still_to_come (left - covered (first_in state) (end_in state) extent) (lap start extent) in
    ap (λ xs. before ++ xs) (sym (cut-comes state.scan.position (versions_in state) (first_in state) (end_in state) extent start left along))
    ∙ sym (append_assoc before here rest)
    ∙ ap (λ xs. (before ++ xs) ++ rest) (sym (positions-on query extent (cut_flight state) (on-roster state sound query start left runs)))
    ∙ ap (λ xs. xs ++ rest) (flat_map_more (positions_for query extent) [] state.scan.flights (cut_flight state))

-- what is kept of each query, with the batch that is cut in flight and the scan behind it
pub kept-cut : (state : State) (scan : ScanState)
    → scan.flights ≡ flights_after state → scan.position ≡ end_in state → IsSound state → Cuts state
    → (accepted : Accepted) (extent : ℕ) (now : Life)
    → query_in state.lives.queries accepted.number ≡ Some (record { query = accepted.number; extent = extent; life = now })
    → extent ≤ versions_in state → IsKept (tables_of state) state.seats state.scan accepted extent now
    → IsKept (tables_of state) state.seats scan accepted extent (cut_life (covered_of state extent) now)
kept-cut state scan flies stands sound range accepted extent (life.Running start left) found within old =
    by_test (eqb (left - covered_of state extent) 0) refl
  where
    runs : life_of state.lives accepted.number ≡ Some (life.Running start left)
    runs = ap (option_map (λ e. e.life)) found

    along : CutsLap state.scan.position (versions_in state) (first_in state) (end_in state) extent start left
    along = cuts-lap state sound range accepted.number extent start left found within old.next

    less : ℕ
    less = left - covered (first_in state) (end_in state) extent

    same : left - covered_of state extent ≡ less
    same = ap (λ n. left - n) (covered-same (first_in state) (end_in state) extent range.after)

    flown : flat_map (positions_for accepted.number extent) state.scan.flights ++ still_to_come left (lap start extent)
        ≡ flat_map (positions_for accepted.number extent) scan.flights ++ still_to_come less (lap start extent)
    flown =
        flown-on state sound accepted.number extent start left runs along
        ∙ ap (λ flights. flat_map (positions_for accepted.number extent) flights ++ still_to_come less (lap start extent)) (sym flies)

    by_test : (t : Bool) → eqb (left - covered_of state extent) 0 ≡ t
        → IsKept (tables_of state) state.seats scan accepted extent
        (cond {A = Life} t life.Ending (life.Running start (left - covered_of state extent)))
    by_test true is =
        let none : less ≡ 0 = sym same ∙ eqb-true (left - covered_of state extent) 0 is in
        covered-cut state scan accepted extent (life.Running start left) life.Ending
        (flown ∙ ap (λ xs. flat_map (positions_for accepted.number extent) scan.flights ++ xs)
        (ap (λ n. still_to_come n (lap start extent)) none ∙ none-to-come start extent)) tt old
    by_test false is =
        let some : left - covered_of state extent ≢ 0 = eqb-false (left - covered_of state extent) 0 is in
        let equal : left - covered_of state extent ≡ left - covered (first_in state) (end_in state) extent = same in
        subst (λ n. IsKept (tables_of state) state.seats scan accepted extent (life.Running start n)) (sym same)
        (covered-cut state scan accepted extent (life.Running start left) (life.Running start less)
        flown
        (subst (λ position. IsNext position extent (life.Running start less)) (sym stands)
        (cut_next state.scan.position (versions_in state) (first_in state) (end_in state) extent start left along (omega arith))) old)
kept-cut state scan flies stands sound range accepted extent life.Ending found within old =
    covered-cut state scan accepted extent life.Ending life.Ending
    (ap (λ xs. xs ++ []) (sym (ap (flat_map (positions_for accepted.number extent)) flies
    ∙ flown-off state accepted.number extent
    (λ start left runs. let both : Some life.Ending ≡ Some (life.Running start left) = sym (ap (option_map (λ e. e.life)) found) ∙ runs in cc))))
    tt old
kept-cut state scan flies stands sound range accepted extent other found within old = old
