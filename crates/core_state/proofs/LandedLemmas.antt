-- What is kept of a query where a batch is distributed.
use Rattle.core_state.proofs.Words.{◌++◌, ◌+◌, ◌∙◌, ◌≡◌, ◌≢◌, ◌⊎◌, [], Accepted, accepted_at, All-contains_itself, AllPairs, ap, append-nil, append_assoc, AreSoundFilters, Bool, cond, Contains, eqb, eqb-true, false, fed, filter, find, flat_map, Flight, flight_at, frame_words, gets_rows, Grouped, grouped_of, has_passed_all, is_empty, is_open, IsCovered, IsKept, IsOnRoster, IsOver, IsPermutation, IsPermutation-append_left, IsPermutation-append_right, IsPermutation-sym, IsPermutation-trans, IsSoundBatch, IsSoundOrder, IsTrue, Joined, kept_at, Life, life_of, List, nat_lt, None, OnRoster, Option, option_map, option_map_or, positions_for, range_with_len, refl, rows_for, Some, State, Store, subst, sym, tables_of, to_come, true, with_rows, ℕ}
use Rattle.pipeline_manager.specs.declared.life.Life.TheVariants as life
use Rattle.core_state.proofs.AcceptedLemmas.{find-holds}
use Rattle.core_state.proofs.AnewLemmas.{KeepsAsked, kept_anew}
use Rattle.core_state.proofs.DistributeLemmas.{FoldsOne, kept_at-append, landed-permutes, rows-folded, without_flight}
use Rattle.core_state.proofs.FoundLemmas.{find-passes, some-at}
use Rattle.core_state.proofs.LandedBitsLemmas.{SeesBelow, row-agrees}
use Rattle.core_state.proofs.LandedRowsLemmas.{landed-rows}

-- an accepted query as a batch feeds it
abbrev pub fed_by : State → Flight → Accepted → Accepted
fed_by state flight = fed (tables_of state) state.lives flight.rows flight.roster

-- the core as a batch has left it
abbrev pub landed : (batch : ℕ) → Flight → State → State
landed batch flight state = kept_anew state (fed_by state flight) state.lives.queries state.seats
    (record state.scan { flights = without_flight batch state.scan.flights; free = state.scan.free + 1 })

-- the entry of a query on a roster
abbrev pub entry_for : (number : ℕ) → Flight → Option OnRoster
entry_for number flight = find (λ entry. eqb entry.number number) flight.roster

-- whether a query of this number gets rows
abbrev pub Gets : State → (number : ℕ) → Bool → Type 0
Gets state number gets = option_map_or gets_rows (life_of state.lives number) false ≡ gets

-- an accepted query with some rows more
abbrev pub with_more : State → Flight → Accepted → OnRoster → Accepted
with_more state flight accepted entry =
    record accepted { groups = option_map (with_rows (rows_for (tables_of state) flight.rows entry)) accepted.groups }

-- a batch changes nothing but what is kept
pub feeds : (state : State) (flight : Flight) → KeepsAsked (fed_by state flight)
feeds state flight accepted = by_found (entry_for accepted.number flight)
  where
    by_gets : (entry : OnRoster) (t : Bool) → (groups : Option Grouped)
        × (cond {A = Accepted} t (with_more state flight accepted entry) accepted ≡ record accepted { groups = groups })
    by_gets entry true = (option_map (with_rows (rows_for (tables_of state) flight.rows entry)) accepted.groups, refl)
    by_gets entry false = (accepted.groups, refl)

    by_found : (o : Option OnRoster) → (groups : Option Grouped)
        × (option_map_or (λ entry. cond {A = Accepted} (option_map_or gets_rows (life_of state.lives accepted.number) false)
        (with_more state flight accepted entry) accepted) o accepted ≡ record accepted { groups = groups })
    by_found None = (accepted.groups, refl)
    by_found (Some entry) = by_gets entry (option_map_or gets_rows (life_of state.lives accepted.number) false)

pub fed-absent : (state : State) (flight : Flight) (accepted : Accepted) → entry_for accepted.number flight ≡ None → fed_by state flight accepted ≡ accepted
fed-absent state flight accepted is =
    ap (λ o. option_map_or (λ entry. cond {A = Accepted} (option_map_or gets_rows (life_of state.lives accepted.number) false)
    (with_more state flight accepted entry) accepted) o accepted) is

fed-not : (state : State) (flight : Flight) (accepted : Accepted) → Gets state accepted.number false → fed_by state flight accepted ≡ accepted
fed-not state flight accepted gets =
    ap (λ t. option_map_or (λ entry. cond {A = Accepted} t (with_more state flight accepted entry) accepted) (entry_for accepted.number flight) accepted) gets
    ∙ by_found (entry_for accepted.number flight)
  where
    by_found : (o : Option OnRoster) → option_map_or (λ entry. accepted) o accepted ≡ accepted
    by_found None = refl
    by_found (Some entry) = refl

pub fed-there : (state : State) (flight : Flight) (accepted : Accepted) (entry : OnRoster) → entry_for accepted.number flight ≡ Some entry
    → Gets state accepted.number true → fed_by state flight accepted ≡ with_more state flight accepted entry
fed-there state flight accepted entry is gets =
    ap (λ t. option_map_or (λ e. cond {A = Accepted} t (with_more state flight accepted e) accepted) (entry_for accepted.number flight) accepted) gets
    ∙ ap (λ o. option_map_or (λ e. with_more state flight accepted e) o accepted) is

-- what was in flight and has landed is folded
spread : (folded here flying rest come all : List ℕ) → IsPermutation flying (here ++ rest) → IsPermutation (folded ++ flying ++ come) all
    → IsPermutation (folded ++ here ++ rest ++ come) all
spread folded here flying rest come all lands old =
    IsPermutation-trans (folded ++ here ++ rest ++ come) (folded ++ flying ++ come) all
    (IsPermutation-append_left come (folded ++ here ++ rest) (folded ++ flying)
    (subst (λ xs. IsPermutation xs (folded ++ flying)) (sym (append_assoc folded here rest))
    (IsPermutation-append_right folded (here ++ rest) flying (IsPermutation-sym flying (here ++ rest) lands)))) old

-- what a batch brings a query is what the query keeps at the positions of the batch
abbrev pub Brings : State → Flight → Accepted → (extent : ℕ) → Type 0
Brings state flight accepted extent = (entry : OnRoster) → entry_for accepted.number flight ≡ Some entry
    → rows_for (tables_of state) flight.rows entry
    ≡ kept_at (tables_of state) accepted.query accepted.snapshot (positions_for accepted.number extent flight)

covered-landed : FoldsOne → (state : State) (batch : ℕ) (flight : Flight) → flight_at state.scan.flights batch ≡ Some flight
    → AllPairs (λ f other. f.rows.number ≢ other.rows.number) state.scan.flights
    → (accepted : Accepted) (extent : ℕ) (now : Life) → Gets state accepted.number true → Brings state flight accepted extent
    → IsCovered (tables_of state) state.scan accepted extent now → IsCovered (tables_of state) (record state.scan { flights = without_flight batch state.scan.flights; free = state.scan.free + 1 }) (fed_by state flight accepted) extent now
covered-landed folds state batch flight there apart accepted extent now gets brings old = by_found (entry_for accepted.number flight) refl
  where
    here : List ℕ
    here = positions_for accepted.number extent flight

    rest : List ℕ
    rest = flat_map (positions_for accepted.number extent) (without_flight batch state.scan.flights)

    once : IsPermutation (old.folded ++ here ++ rest ++ to_come extent now) (range_with_len 0 extent)
    once = spread old.folded here (flat_map (positions_for accepted.number extent) state.scan.flights) rest (to_come extent now) (range_with_len 0 extent)
        (landed-permutes (positions_for accepted.number extent) batch flight state.scan.flights there apart) old.each_once

    by_found : (o : Option OnRoster) → entry_for accepted.number flight ≡ o
        → IsCovered (tables_of state) (record state.scan { flights = without_flight batch state.scan.flights; free = state.scan.free + 1 }) (fed_by state flight accepted) extent now
    by_found None is =
        let none : here ≡ [] = ap (λ o. option_map_or
        (λ entry. filter (λ position. nat_lt position extent) (range_with_len flight.rows.first flight.rows.count)) o []) is in
        subst (λ a. IsCovered (tables_of state) (record state.scan { flights = without_flight batch state.scan.flights; free = state.scan.free + 1 }) a extent now) (sym (fed-absent state flight accepted is)) (record {
          folded = old.folded;
          each_once = subst (λ positions. IsPermutation (positions ++ rest ++ to_come extent now) (range_with_len 0 extent))
              (ap (λ positions. old.folded ++ positions) none ∙ append-nil old.folded) once;
          next = old.next;
          groups = old.groups;
        })
    by_found (Some entry) is =
        let store : Store = tables_of state in
        let before : List Joined = kept_at store accepted.query accepted.snapshot old.folded in
        subst (λ a. IsCovered (tables_of state) (record state.scan { flights = without_flight batch state.scan.flights; free = state.scan.free + 1 }) a extent now) (sym (fed-there state flight accepted entry is gets)) (record {
          folded = old.folded ++ here;
          each_once = once;
          next = old.next;
          groups =
              ap (option_map (with_rows (rows_for store flight.rows entry))) old.groups
              ∙ ap Some (rows-folded folds accepted.query before (rows_for store flight.rows entry)
              ∙ ap (λ rows. grouped_of accepted.query (before ++ rows)) (brings entry is)
              ∙ ap (grouped_of accepted.query) (sym (kept_at-append store accepted.query accepted.snapshot old.folded here)));
        })

-- what is kept is what the life says, as it was
pub kept-landed : FoldsOne → (state : State) (batch : ℕ) (flight : Flight) → flight_at state.scan.flights batch ≡ Some flight
    → AllPairs (λ f other. f.rows.number ≢ other.rows.number) state.scan.flights
    → (accepted : Accepted) (extent : ℕ) (now : Life) → life_of state.lives accepted.number ≡ Some now
    → (IsTrue (gets_rows now) → Brings state flight accepted extent)
    → IsKept (tables_of state) state.seats state.scan accepted extent now → IsKept (tables_of state) state.seats (record state.scan { flights = without_flight batch state.scan.flights; free = state.scan.free + 1 }) (fed_by state flight accepted) extent now
kept-landed folds state batch flight there apart accepted extent (life.Running start left) was brings kept =
    covered-landed folds state batch flight there apart accepted extent (life.Running start left)
    (ap (λ o. option_map_or gets_rows o false) was) (brings refl) kept
kept-landed folds state batch flight there apart accepted extent life.Ending was brings kept =
    covered-landed folds state batch flight there apart accepted extent life.Ending
    (ap (λ o. option_map_or gets_rows o false) was) (brings refl) kept
kept-landed folds state batch flight there apart accepted extent other was brings kept =
    subst (λ a. IsKept (tables_of state) state.seats (record state.scan { flights = without_flight batch state.scan.flights; free = state.scan.free + 1 }) a extent other)
    (sym (fed-not state flight accepted (ap (λ o. option_map_or gets_rows o false) was))) kept

-- a batch that is through brings each query on its roster what the query keeps
pub batch-brings : (state : State) (flight : Flight) (accepted : Accepted) (extent : ℕ) → AreSoundFilters state → IsSoundOrder state.filters
    → (has_passed_all state.filters flight ≡ true) ⊎ (is_empty flight ≡ true) → IsSoundBatch (frame_words state) (tables_of state) state.lives state.accepted flight
    → accepted_at state.accepted accepted.number ≡ Some accepted → IsOver (tables_of state).schema accepted.query
    → SeesBelow (tables_of state) accepted.snapshot extent → Brings state flight accepted extent
batch-brings state flight accepted extent filters order through sound itself over sees entry is =
    landed-rows (tables_of state) flight entry extent sound.bits
    (row-agrees state flight entry extent filters order through sound there
    (subst (IsOver (tables_of state).schema) same.0 over)
    (subst (λ snapshot. SeesBelow (tables_of state) snapshot extent) same.1 sees))
    ∙ ap (λ query. kept_at (tables_of state) query entry.snapshot (at (Some entry))) (sym same.0)
    ∙ ap (λ snapshot. kept_at (tables_of state) accepted.query snapshot (at (Some entry))) (sym same.1)
    ∙ ap (λ o. kept_at (tables_of state) accepted.query accepted.snapshot (at o)) (sym is)
  where
    at : Option OnRoster → List ℕ
    at o = option_map_or (λ e. filter (λ position. nat_lt position extent) (range_with_len flight.rows.first flight.rows.count)) o []

    there : Contains flight.roster entry
    there = find-holds (Contains flight.roster) (λ e. eqb e.number accepted.number) flight.roster entry is (All-contains_itself flight.roster)

    on : IsOnRoster state.lives state.accepted entry
    on = find-holds (IsOnRoster state.lives state.accepted) (λ e. eqb e.number accepted.number) flight.roster entry is sound.roster

    number : entry.number ≡ accepted.number
    number = eqb-true entry.number accepted.number (find-passes (λ e. eqb e.number accepted.number) flight.roster entry is)

    same : (accepted.query ≡ entry.query) × (accepted.snapshot ≡ entry.snapshot)
    same = some-at (λ a. (a.query ≡ entry.query) × (a.snapshot ≡ entry.snapshot)) (accepted_at state.accepted entry.number) accepted
        (subst (λ n. accepted_at state.accepted n ≡ Some accepted) (sym number) itself) on.same

-- a query that gets rows may still be answered
pub gets-open : (now : Life) → gets_rows now ≡ true → is_open now ≡ true
gets-open life.Answered e = e
gets-open life.Spoiled e = e
gets-open life.Abandoned e = e
gets-open other e = refl
