-- A batch gets the same bits from each filter of a dimension that has every query on its roster.
use Rattle.core_state.proofs.Words.{◌+◌, ◌<◌, ◌↔◌, ◌∙◌, ◌∷◌, ◌≡◌, [], All-contains, Any, Any-from_list_any, ap, arith, bits_left_at, Bool, changes_of, Contains, drop, Encodes, eqb, eqb-true, Filter, filtered, FilterVersion, Flight, frame_words, get_or, get_or-map-range_with_len, Hand, Has, IfSome, is_visible, IsMatched, IsOnRoster, IsOver, IsSettled, IsSound, IsSoundBatch, IsSoundFilter, IsSoundHand, IsSoundRow, IsTrue, joined, key_place, length, length-map-range_with_len, List, list_all, map, None, OnRoster, passes, PlainVersion, range_with_len, refl, Rows, rows_in, slice_get, slice_get_at, slice_index_or, Some, State, subst, suc, sym, tables_of, takes_at, true, vector_of, version_at, with_number, ℕ}
use Rattle.std.proofs.lemmas.List.FromFn.{fill_by_all}
use Rattle.bit_words.proofs.SetLemmas.{same_members}
use Rattle.core_state.specs.Cutting.{passed_by, passed_through}
use Rattle.core_state.specs.Flown.{IsSoundTask}
use Rattle.core_state.proofs.AcceptedLemmas.{find-holds}
use Rattle.core_state.proofs.FoundLemmas.{some-at}
use Rattle.core_state.proofs.GiveLemmas.{SaysByKey, all-three, asked, given-bits}
use Rattle.core_state.proofs.GivenLemmas.{AreTasks, Settles, apart-rest, batch-passed, entry-over, passed_one, tasks-left}
use Rattle.core_state.proofs.KeyedLemmas.{says-by-key}
use Rattle.core_state.proofs.TakeLemmas.{AreApart, dimension-found, encodes-there}

-- a filter of a dimension has every query on a roster
pub record HasRoster (state : State) (flight : Flight) (dimension : ℕ) (filter : Filter) : Type 0 where
  pub same : filter.dimension ≡ dimension
  pub is_filter : Has state.lives.filters filter.dimension
  pub encodes : (entry : OnRoster) → Contains flight.roster entry
      → Encodes filter entry.slot entry.query entry.snapshot (rows_in (tables_of state).dimensions filter.dimension)

-- the vectors of a filter that has a query on a roster say what the query takes
roster-says : (state : State) → IsSound state → (filter : Filter) → Has state.lives.filters filter.dimension → (entry : OnRoster)
    → IsOnRoster state.lives state.accepted entry
    → Encodes filter entry.slot entry.query entry.snapshot (rows_in (tables_of state).dimensions filter.dimension)
    → (version : PlainVersion) → IsMatched (tables_of state).schema (tables_of state).dimensions version.row version.begin
    → SaysByKey state filter entry version
roster-says state sound filter is_filter entry on encodes version matched =
    let over : IsOver (tables_of state).schema entry.query = entry-over state sound entry on in
    says-by-key (tables_of state) filter entry.slot entry.query entry.snapshot version encodes over.choices
    ((sound.filters.set filter.dimension).0 is_filter) matched

-- what the vectors of such a filter say of a row with the bit of a query: whether the query takes the row of the dimension
vector-says : (state : State) → IsSound state → (flight : Flight) → IsSoundBatch (frame_words state) (tables_of state) state.lives state.accepted flight → (dimension : ℕ) (filter : Filter)
    → HasRoster state flight dimension filter → (row : ℕ) (version : PlainVersion)
    → IsMatched (tables_of state).schema (tables_of state).dimensions version.row version.begin → IsSoundRow state.lives.filters (tables_of state) flight row version
    → (entry : OnRoster) → Contains flight.roster entry → Has (get_or flight.rows.bits row 0) entry.slot
    → Has (vector_of filter (get_or flight.rows.keys (key_place row filter.dimension) 0)) entry.slot
    ↔ IsTrue (takes_at entry.query (joined (tables_of state) entry.query entry.snapshot version.row) dimension)
vector-says state sound flight of_batch dimension filter has_roster row version matched of_row entry on has =
    subst (λ d. Has (vector_of filter (get_or flight.rows.keys (key_place row filter.dimension) 0)) entry.slot
    ↔ IsTrue (takes_at entry.query (joined (tables_of state) entry.query entry.snapshot version.row) d)) has_roster.same
    (subst (λ key. Has (vector_of filter key) entry.slot
    ↔ IsTrue (takes_at entry.query (joined (tables_of state) entry.query entry.snapshot version.row) filter.dimension))
    (sym (of_row.keys filter.dimension has_roster.is_filter))
    (roster-says state sound filter has_roster.is_filter entry (All-contains (IsOnRoster state.lives state.accepted) flight.roster entry of_batch.roster on)
    (has_roster.encodes entry on) version matched seen))
  where
    takes : ℕ → Bool
    takes = takes_at entry.query (joined (tables_of state) entry.query entry.snapshot version.row)

    seen : IsTrue (is_visible version.begin version.end entry.snapshot)
    seen = (all-three (is_visible version.begin version.end entry.snapshot) (passes entry.query.fact version.row)
        (list_all (asked takes flight.rows.passed) (range_with_len 0 (length (tables_of state).schema.dimensions)))
        ((of_row.bits entry on).0 has)).0

-- a bit of a row is left by two such filters, or by neither
slot-same : (state : State) → IsSound state → (flight : Flight) → IsSoundBatch (frame_words state) (tables_of state) state.lives state.accepted flight → (dimension : ℕ) (filter other : Filter)
    → HasRoster state flight dimension filter → HasRoster state flight dimension other → (row : ℕ) (version : PlainVersion)
    → IsMatched (tables_of state).schema (tables_of state).dimensions version.row version.begin → IsSoundRow state.lives.filters (tables_of state) flight row version
    → (slot : ℕ) → Has (get_or flight.rows.bits row 0) slot
    → Has (vector_of filter (get_or flight.rows.keys (key_place row filter.dimension) 0)) slot
    → Has (vector_of other (get_or flight.rows.keys (key_place row other.dimension) 0)) slot
slot-same state sound flight of_batch dimension filter other first second row version matched of_row slot has there =
    subst Left slot_is
    ((vector-says state sound flight of_batch dimension other second row version matched of_row entry on bit).1
    ((vector-says state sound flight of_batch dimension filter first row version matched of_row entry on bit).0
    (subst (λ s. Has (vector_of filter (get_or flight.rows.keys (key_place row filter.dimension) 0)) s) (sym slot_is) there)))
  where
    Left : ℕ → Type 0
    Left s = Has (vector_of other (get_or flight.rows.keys (key_place row other.dimension) 0)) s

    found : Any (λ (entry : OnRoster). eqb entry.slot slot ≡ true) flight.roster
    found = Any-from_list_any (λ (entry : OnRoster). eqb entry.slot slot) flight.roster (of_row.others slot has)

    entry : OnRoster
    entry = found.1

    on : Contains flight.roster entry
    on = (found.0, found.2, found.3)

    slot_is : entry.slot ≡ slot
    slot_is = eqb-true entry.slot slot found.4

    bit : Has (get_or flight.rows.bits row 0) entry.slot
    bit = subst (Has (get_or flight.rows.bits row 0)) (sym slot_is) has

-- a row has the same bits left by two such filters
row-same : (state : State) → IsSound state → (flight : Flight) → IsSoundBatch (frame_words state) (tables_of state) state.lives state.accepted flight → (dimension : ℕ) (filter other : Filter)
    → HasRoster state flight dimension filter → HasRoster state flight dimension other → (row : ℕ) (version : PlainVersion)
    → IsMatched (tables_of state).schema (tables_of state).dimensions version.row version.begin → IsSoundRow state.lives.filters (tables_of state) flight row version
    → row < length flight.rows.bits
    → get_or (filtered filter flight.rows.keys flight.rows.bits) row 0 ≡ get_or (filtered other flight.rows.keys flight.rows.bits) row 0
row-same state sound flight of_batch dimension filter other first second row version matched of_row low =
    same_members (get_or (filtered filter flight.rows.keys flight.rows.bits) row 0)
    (get_or (filtered other flight.rows.keys flight.rows.bits) row 0)
    (λ slot. (
      λ has. let both = (given-bits filter flight.rows.keys flight.rows.bits row slot low).0 has in
          (given-bits other flight.rows.keys flight.rows.bits row slot low).1 (
            both.0,
            slot-same state sound flight of_batch dimension filter other first second row version matched of_row slot both.0 both.1,
          ),
      λ has. let both = (given-bits other flight.rows.keys flight.rows.bits row slot low).0 has in
          (given-bits filter flight.rows.keys flight.rows.bits row slot low).1 (
            both.0,
            slot-same state sound flight of_batch dimension other filter second first row version matched of_row slot both.0 both.1,
          ),
    ))

-- all rows have
rows-same : Settles → (state : State) → IsSound state → (flight : Flight) → IsSoundBatch (frame_words state) (tables_of state) state.lives state.accepted flight → (dimension : ℕ) (filter other : Filter)
    → HasRoster state flight dimension filter → HasRoster state flight dimension other
    → filtered filter flight.rows.keys flight.rows.bits ≡ filtered other flight.rows.keys flight.rows.bits
rows-same settles state sound flight of_batch dimension filter other first second =
    fill_by_all (bits_left_at other keys bits) (filtered filter keys bits) (length bits) 0
    (length-map-range_with_len (bits_left_at filter keys bits) 0 (length bits))
    (λ row low.
    let there : flight.rows.first + row < length (tables_of state).versions =
    let within = of_batch.within in let count = of_batch.bits in omega arith in
    let counted : row < flight.rows.count = let count = of_batch.bits in omega arith in
    let version : PlainVersion = get_or (tables_of state).versions (flight.rows.first + row) none in
    let at : slice_get (tables_of state).versions (flight.rows.first + row) ≡ Some version =
    slice_get_at (tables_of state).versions (flight.rows.first + row) none there in
    row-same state sound flight of_batch dimension filter other first second row version
    (settled.versions.matched (flight.rows.first + row) none there)
    (some-at (IsSoundRow state.lives.filters (tables_of state) flight row) (slice_get (tables_of state).versions (flight.rows.first + row)) version at
    (of_batch.rows row counted)) low
    ∙ get_or-map-range_with_len (bits_left_at other keys bits) 0 (length bits) row row 0 low (omega arith))
  where
    keys : List ℕ
    keys = flight.rows.keys

    bits : List ℕ
    bits = flight.rows.bits

    none : PlainVersion
    none = record { row = []; begin = 0; end = 0 }

    settled : IsSettled (tables_of state)
    settled = settles (changes_of state.entries) sound.store

-- the rows of a batch with other bits, that have passed one dimension more
abbrev rows_with : Rows → (bits : List ℕ) → (dimension : ℕ) → Rows
rows_with rows bits dimension = record rows { bits = bits; passed = with_number rows.passed dimension }

-- a batch behind a version that it may pass is the batch behind the present one
one-same : Settles → (state : State) → IsSound state → (flight : Flight) → IsSoundBatch (frame_words state) (tables_of state) state.lives state.accepted flight
    → (filter : Filter) (present : FilterVersion) → IsSoundTask state.lives.filters (tables_of state) flight filter
    → version_at state.filters.versions filter.dimension ≡ Some present
    → passed_by filter flight.rows ≡ passed_by present.filter flight.rows
one-same settles state sound flight of_batch filter present task found =
    ap (λ bits. rows_with flight.rows bits filter.dimension)
    (rows-same settles state sound flight of_batch filter.dimension filter present.filter
    (record {
      same = refl;
      is_filter = task.is_filter;
      encodes = λ entry on. All-contains (λ e. Encodes filter e.slot e.query e.snapshot
          (rows_in (tables_of state).dimensions filter.dimension)) flight.roster entry task.encodes on;
    })
    (record {
      same = same;
      is_filter = of_filter.is_filter;
      encodes = λ entry on. encodes-there state sound present.filter of_filter entry
          (All-contains (IsOnRoster state.lives state.accepted) flight.roster entry of_batch.roster on);
    }))
    ∙ ap (rows_with flight.rows (filtered present.filter flight.rows.keys flight.rows.bits)) (sym same)
  where
    same : present.filter.dimension ≡ filter.dimension
    same = dimension-found state.filters.versions filter.dimension present found

    of_filter : IsSoundFilter state.accepted (tables_of state) state.lives.slots state.lives.filters present.filter
    of_filter = find-holds (λ v. IsSoundFilter state.accepted (tables_of state) state.lives.slots state.lives.filters v.filter)
        (λ v. eqb v.filter.dimension filter.dimension) state.filters.versions present found sound.filters.each

-- a batch behind versions that it may pass, of each filter one, is the batch behind the present ones
all-same : Settles → (state : State) → IsSound state → (versions presents : List FilterVersion) (flight : Flight)
    → IsSoundBatch (frame_words state) (tables_of state) state.lives state.accepted flight → AreTasks state flight versions → AreApart versions
    → map (λ version. version_at state.filters.versions version.filter.dimension) versions ≡ map Some presents
    → passed_through versions flight.rows ≡ passed_through presents flight.rows
all-same settles state sound [] [] flight of_batch tasks apart found = refl
all-same settles state sound [] (present ∷ presents) flight of_batch tasks apart found =
    absurd (let count : 0 ≡ suc (length (map Some presents)) = ap length found in omega arith)
all-same settles state sound (version ∷ versions) [] flight of_batch tasks apart found =
    absurd (let count : suc (length (map (λ (v : FilterVersion). version_at state.filters.versions v.filter.dimension) versions)) ≡ 0 =
    ap length found in omega arith)
all-same settles state sound (version ∷ versions) (present ∷ presents) flight of_batch tasks apart found =
    let task : IsSoundTask state.lives.filters (tables_of state) flight version.filter = tasks 0 version (omega arith) in
    all-same settles state sound versions presents (passed_one version.filter flight)
    (batch-passed settles state sound flight of_batch version.filter task)
    (tasks-left state flight version versions tasks apart) (apart-rest version versions apart) (ap (drop 1) found)
    ∙ ap (passed_through presents)
    (one-same settles state sound flight of_batch version.filter present task (ap (λ all. slice_index_or all 0 None) found))

-- the versions in a hand leave a batch the bits that the present versions leave it
pub same-rows : Settles → (state : State) (flight : Flight) (hand : Hand) (presents : List FilterVersion) → IsSound state
    → Contains state.scan.flights flight → flight.hand ≡ Some hand
    → map (λ version. version_at state.filters.versions version.filter.dimension) hand.versions ≡ map Some presents
    → passed_through hand.versions flight.rows ≡ passed_through presents flight.rows
same-rows settles state flight hand presents sound flies held found =
    all-same settles state sound hand.versions presents flight
    (All-contains (IsSoundBatch (frame_words state) (tables_of state) state.lives state.accepted) state.scan.flights flight sound.batches flies)
    of_hand.each of_hand.apart found
  where
    of_hand : IsSoundHand (length state.seats) state.lives.filters (tables_of state) flight hand
    of_hand = some-at (IsSoundHand (length state.seats) state.lives.filters (tables_of state) flight) flight.hand hand held
        (All-contains (λ f. IfSome f.hand (IsSoundHand (length state.seats) state.lives.filters (tables_of state) f)) state.scan.flights flight sound.hands.each flies)
