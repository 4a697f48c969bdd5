-- What is kept of a query has room for the rows of a batch.
use Rattle.core_state.proofs.Words.{◌++◌, ◌+◌, ◌∙◌, ◌∷◌, ◌≡◌, ◌≤◌, [], Accepted, accepted_at, All, All-contains, All-contains_itself, All-map, ap, AreKeyedTablesOf, arith, attached_at, attached_to, Bool, changes_of, cons_option, Contains, DimensionRow, eqb, fed_at, filter, filter_map, flat_map, Flight, frame_words, Grouped, groups_in, IfSome, is_kept, is_some, is_visible, IsAnswer, IsCovered, IsKept, IsSettled, IsSound, IsSoundBatch, IsSoundQuery, Joined, joined, kept, kept_at, KeyedStore, length, length-map, length-range_with_len, Life, List, map, None, Option, option_and_then, option_map_or, plain_version, PlainVersion, positions_for, Query, query_in, range_with_len, refl, Roomy, slice_get, Some, State, Store, subst, sym, tables_of, to_come, versions_at, versions_in, ℕ, ⊎_elim}
use Rattle.std.proofs.lemmas.List.{length-append}
use Rattle.std.proofs.lemmas.List.Sorted.{length_permutation}
use Rattle.std.proofs.lemmas.List.Sums.{count_by-le-length, length-filter}
use Rattle.star_plan.specs.Joined.{kept_of}
use Rattle.query_meaning.specs.Alone.{visible}
use Rattle.pipeline_manager.specs.declared.life.Life.TheVariants as life
use Rattle.distributor.specs.Slots.{HaveRoom}
use Rattle.core_state.proofs.AcceptedLemmas.{accepted-lives, find-holds}
use Rattle.core_state.proofs.CutFoundLemmas.{all-below}
use Rattle.core_state.proofs.DistributedLemmas.{found-itself}
use Rattle.core_state.proofs.FoundLemmas.{some-of}
use Rattle.core_state.proofs.FrameLemmas.{lives-as}
use Rattle.core_state.proofs.GivenLemmas.{Settles}

-- groups of so many rows at most
abbrev AreFew : (most : ℕ) → Option Grouped → Type 0
AreFew most o = IfSome o (λ groups. groups.rows ≤ most)

fewer-found : {X Y : Type 0} (f : X → Option Y) (xs : List X) → length (filter_map f xs) ≤ length xs
fewer-found f [] = omega arith
fewer-found {Y = Y} f (x ∷ xs) = by_option (f x) (fewer-found f xs)
  where
    by_option : (o : Option Y) → length (filter_map f xs) ≤ length xs → length (cons_option o (filter_map f xs)) ≤ length (x ∷ xs)
    by_option None few = omega arith
    by_option (Some y) few = omega arith

fewer-pass : {X : Type 0} (p : X → Bool) (xs : List X) → length (filter p xs) ≤ length xs
fewer-pass p xs = let count = length-filter p xs in let few = count_by-le-length p xs in omega arith

fewer-kept : (query : Query) (rows : List Joined) → length (kept_of query rows) ≤ length rows
unfolding kept_of
fewer-kept query rows = fewer-pass (is_kept query) rows

-- a query keeps no more rows than there are positions
few-at : (store : Store) (query : Query) (snapshot : ℕ) (positions : List ℕ) → length (kept_at store query snapshot positions) ≤ length positions
few-at store query snapshot positions =
    let seen : PlainVersion → Bool = λ version. is_visible version.begin version.end snapshot in
    let row : PlainVersion → Joined = λ version. joined store query snapshot version.row in
    let versions = versions_at positions store.versions in
    let of_rows = fewer-kept query (map row (filter seen versions)) in
    let of_seen = length-map (filter seen versions) row in
    let of_versions = fewer-pass seen versions in
    let of_positions = fewer-found (λ position. slice_get store.versions position) positions in
    omega arith

-- nor than there are versions
few-kept : (store : Store) (query : Query) (snapshot : ℕ) → length (kept store query snapshot) ≤ length store.versions
few-kept store query snapshot =
    let seen : PlainVersion → Bool = λ version. is_visible version.begin version.end snapshot in
    let rows = map (λ (version : PlainVersion). version.row) (visible store snapshot) in
    let of_rows = fewer-kept query (map (joined store query snapshot) rows) in
    let joined_rows = length-map rows (joined store query snapshot) in
    let of_seen = length-map (visible store snapshot) (λ (version : PlainVersion). version.row) in
    let of_versions = fewer-pass seen store.versions in
    omega arith

-- no more are folded than there are positions in the extent
few-covered : (state : State) (accepted : Accepted) (extent : ℕ) (now : Life) → extent ≤ versions_in state
    → IsCovered (tables_of state) state.scan accepted extent now → AreFew (versions_in state) accepted.groups
few-covered state accepted extent now within old =
    let folded = old.folded in
    let flying = flat_map (positions_for accepted.number extent) state.scan.flights in
    let come = to_come extent now in
    let all = length_permutation (folded ++ flying ++ come) (range_with_len 0 extent) old.each_once in
    let count = length-range_with_len 0 extent in
    let parts = length-append (folded ++ flying) come in
    let front = length-append folded flying in
    let few = few-at (tables_of state) accepted.query accepted.snapshot folded in
    subst (AreFew (versions_in state)) (sym old.groups) (omega arith)

few-answered : (state : State) (accepted : Accepted) → IsAnswer (tables_of state) accepted → AreFew (versions_in state) accepted.groups
few-answered state accepted answer =
    let same = length_permutation answer.rows (kept (tables_of state) accepted.query accepted.snapshot) answer.all in
    let few = few-kept (tables_of state) accepted.query accepted.snapshot in
    subst (AreFew (versions_in state)) (sym answer.groups) (omega arith)

few-by-life : (state : State) (accepted : Accepted) (extent : ℕ) (now : Life) → extent ≤ versions_in state → IsKept (tables_of state) state.seats state.scan accepted extent now
    → AreFew (versions_in state) accepted.groups
few-by-life state accepted extent life.Waiting within kept = subst (AreFew (versions_in state)) (sym kept) (omega arith)
few-by-life state accepted extent life.Building within kept = subst (AreFew (versions_in state)) (sym kept) (omega arith)
few-by-life state accepted extent (life.Running start left) within kept = few-covered state accepted extent (life.Running start left) within kept
few-by-life state accepted extent life.Ending within kept = few-covered state accepted extent life.Ending within kept
few-by-life state accepted extent life.Answered within kept = ⊎_elim
    (λ gone. subst (AreFew (versions_in state)) (sym gone.0) tt)
    (λ answer. few-answered state accepted answer) kept
few-by-life state accepted extent life.Spoiled within kept = subst (AreFew (versions_in state)) (sym kept) tt
few-by-life state accepted extent life.Abandoned within kept = subst (AreFew (versions_in state)) (sym kept) tt

-- what is kept of an accepted query has no more rows than there are versions
few-rows : (state : State) (accepted : Accepted) → IsSound state → accepted_at state.accepted accepted.number ≡ Some accepted
    → IsSoundQuery state accepted → AreFew (versions_in state) accepted.groups
few-rows state accepted sound there of_query =
    let entry = some-of (query_in state.lives.queries accepted.number) (sym (accepted-lives state accepted.number sound.queries) ∙ ap is_some there) in
    let was = lives-as state accepted of_query entry.0 entry.1 in
    few-by-life state accepted entry.0.extent entry.0.life was.2 was.0

-- so there is room for the rows of a batch
few-room : Settles → (state : State) (flight : Flight) → IsSound state → IsSoundBatch (frame_words state) (tables_of state) state.lives state.accepted flight → (o : Option Grouped)
    → AreFew (versions_in state) o → HaveRoom flight.rows.count o
few-room settles state flight sound batch None few = tt
few-room settles state flight sound batch (Some groups) few =
    let settled : IsSettled (tables_of state) = settles (changes_of state.entries) sound.store in
    let most : length (tables_of state).versions ≤ 1048576 = settled.versions.few in
    let within = batch.within in
    omega arith

pub room-kept : Settles → (state : State) (flight : Flight) (accepted : Accepted) → IsSound state → Contains state.scan.flights flight
    → Contains state.accepted accepted → HaveRoom flight.rows.count accepted.groups
room-kept settles state flight accepted sound flies there =
    few-room settles state flight sound (All-contains (IsSoundBatch (frame_words state) (tables_of state) state.lives state.accepted) state.scan.flights flight sound.batches flies) accepted.groups
    (few-rows state accepted sound (found-itself state sound.queries sound.slots.lives.rising accepted there)
    (All-contains (IsSoundQuery state) state.accepted accepted sound.queries.each there))

pub room-attached : Settles → (state : State) (flight : Flight) → IsSound state → Contains state.scan.flights flight
    → All (HaveRoom flight.rows.count) (attached_to state)
room-attached settles state flight sound flies =
    All-map (HaveRoom flight.rows.count) (attached_at state) (range_with_len 0 (length state.lives.slots))
    (all-below (λ slot. HaveRoom flight.rows.count (attached_at state slot)) (length state.lives.slots) (λ slot low. by_fed (fed_at state slot)))
  where
    by_found : (number : ℕ) (o : Option Accepted) → accepted_at state.accepted number ≡ o
        → HaveRoom flight.rows.count (option_map_or (λ a. a.groups) o None)
    by_found number None is = tt
    by_found number (Some accepted) is =
        room-kept settles state flight accepted sound flies
        (find-holds (Contains state.accepted) (λ a. eqb a.number number) state.accepted accepted is (All-contains_itself state.accepted))

    by_fed : (o : Option ℕ) → HaveRoom flight.rows.count (option_and_then (groups_in state) o)
    by_fed None = tt
    by_fed (Some number) = by_found number (accepted_at state.accepted number) refl

-- the positions of a batch are in a table that is that of the core
pub positions-within : (state : State) (tables : KeyedStore) (dims : List (Roomy DimensionRow)) (flight : Flight) → IsSound state
    → AreKeyedTablesOf state tables dims → Contains state.scan.flights flight → flight.rows.first + flight.rows.count ≤ length tables.versions
positions-within state tables dims flight sound are flies =
    let batch = All-contains (IsSoundBatch (frame_words state) (tables_of state) state.lives state.accepted) state.scan.flights flight sound.batches flies in
    let within = batch.within in
    let same : length (map plain_version tables.versions) ≡ length (tables_of state).versions = ap (λ (store : Store). length store.versions) are.tables.same in
    let count = length-map tables.versions plain_version in
    omega arith
