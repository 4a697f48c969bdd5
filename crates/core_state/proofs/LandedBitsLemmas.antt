-- What the bits of a batch say that has passed every filter, or has no bit left.
use Rattle.core_state.proofs.Words.{◌&&◌, ◌+◌, ◌<◌, ◌↔◌, ◌∙◌, ◌≡◌, ◌≤◌, ◌⊎◌, [], All, All-permutation, AllRows, ap, AreSoundFilters, arith, bit_at, Bool, Chosen, cond, Contains, eq-eqb, eqb, eqb-true, fact_columns, false, Flight, frame_words, get_or, Has, has_passed, has_passed_all, IfSome, is_empty, is_kept, is_named, is_visible, IsOver, IsPermutation-sym, IsSoundBatch, IsSoundOrder, IsSoundRow, IsTrue, Joined, joined, joined_row, keeps_so_far, length, List, list_all, list_any, list_any-from_Any, map, nat_lt, nat_tests, OnRoster, option_map_or, passes, PlainVersion, Query, range_with_len, references, refl, Schema, Selection, selection_in, slice_get, slice_get_at, Some, State, Store, subst, sym, tables_of, takes, takes_at, true, Unnamed, ℕ, ⊎_elim}
use Rattle.std.proofs.lemmas.List.Sums.{AllPass-from_list_all}
use Rattle.star_values.specs.declared.value.Value as cell
use Rattle.query_meaning.proofs.FoundLemmas.{second_true}
use Rattle.core_state.proofs.CutFoundLemmas.{at-below, from-filter}
use Rattle.core_state.proofs.FoundLemmas.{some-at}
use Rattle.core_state.proofs.GiveLemmas.{all-asked, all-three, asked, at-each, each-at, three-all}
use Rattle.core_state.proofs.KeyedLemmas.{begun-by, takes-at}
use Rattle.core_state.proofs.ReleaseLemmas.{none-in}

-- a batch that has passed all of the order has passed the filter of each dimension that the fact table references
abbrev PassedAll : Schema → (passed : ℕ) → Type 0
PassedAll schema passed = (dimension : ℕ) → dimension < length schema.dimensions
    → list_any (references dimension) (fact_columns schema) ≡ true → Has passed dimension

passed-all : (state : State) (flight : Flight) → AreSoundFilters state → IsSoundOrder state.filters → has_passed_all state.filters flight ≡ true
    → PassedAll (tables_of state).schema flight.rows.passed
passed-all state flight filters order through dimension low referenced =
    let schema = (tables_of state).schema in
    let Passed : ℕ → Type 0 = λ d. has_passed flight d ≡ true in
    let dimensions = map (λ version. version.filter.dimension) state.filters.versions in
    let of_filters : All Passed dimensions =
    All-permutation Passed state.filters.order dimensions (IsPermutation-sym dimensions state.filters.order order.order)
    (AllPass-from_list_all (has_passed flight) state.filters.order through) in
    let test : ℕ → Bool = λ d. list_any (references d) (fact_columns schema) in
    eqb-true (bit_at flight.rows.passed dimension) 1
    (at-below (λ d. test d ≡ true → Passed d) (length schema.dimensions)
    (from-filter Passed test (range_with_len 0 (length schema.dimensions)) (subst (All Passed) filters.dimensions of_filters)) dimension low referenced)

-- of a dimension that it does not name a query takes any row
unnamed-takes : (selection : Selection) (row : List cell.Value) → is_named selection ≡ false → takes selection row ≡ true
unnamed-takes Unnamed row is = refl
unnamed-takes AllRows row is = refl
unnamed-takes (Chosen test) row is = absurd (let both : true ≡ false = is in cc)

-- a dimension that is not referenced is not named
not-named : (schema : Schema) (query : Query) (dimension : ℕ) → IsOver schema query → dimension < length query.choices
    → list_any (references dimension) (fact_columns schema) ≡ false → is_named (selection_in query dimension) ≡ false
not-named schema query dimension over low none = by_test (is_named (selection_in query dimension)) refl
  where
    by_test : (t : Bool) → is_named (selection_in query dimension) ≡ t → t ≡ false
    by_test true is =
        let any = over.referenced dimension (ap (λ o. option_map_or is_named o false) (slice_get_at query.choices dimension Unnamed low) ∙ is) in
        let some : list_any (references dimension) (fact_columns schema) ≡ true =
        list_any-from_Any (references dimension) (fact_columns schema) (
          any.0,
          any.1,
          any.2,
          any.3,
          ap (λ o. option_map_or (λ target. eqb target dimension) o false) any.4 ∙ eq-eqb dimension dimension refl,
        ) in
        let both : true ≡ false = sym some ∙ none in cc
    by_test false is = refl

-- what is asked of the filters that were passed is all that the query asks
taken-all : (store : Store) (query : Query) (snapshot passed : ℕ) (row : List cell.Value) → IsOver store.schema query → PassedAll store.schema passed
    → list_all (asked (takes_at query (joined store query snapshot row)) passed) (range_with_len 0 (length store.schema.dimensions)) ≡ true
    → list_all (takes_at query (joined store query snapshot row)) (range_with_len 0 (length query.choices)) ≡ true
taken-all store query snapshot passed row over all holds =
    subst (λ n. list_all takes_it (range_with_len 0 n) ≡ true) (sym over.choices)
    (each-at takes_it (length store.schema.dimensions)
    (λ dimension low. by_test dimension low (list_any (references dimension) (fact_columns store.schema)) refl))
  where
    takes_it : ℕ → Bool
    takes_it = takes_at query (joined store query snapshot row)

    by_test : (dimension : ℕ) → dimension < length store.schema.dimensions → (t : Bool)
        → list_any (references dimension) (fact_columns store.schema) ≡ t → takes_it dimension ≡ true
    by_test dimension low true is =
        (all-asked takes_it passed (length store.schema.dimensions)).0 holds dimension low (all dimension low is)
    by_test dimension low false is =
        let inside : dimension < length query.choices = let count = over.choices in omega arith in
        let unnamed = not-named store.schema query dimension over inside is in
        takes-at store query snapshot dimension row inside
        ∙ unnamed-takes (selection_in query dimension)
        (cond {A = List cell.Value} (is_named (selection_in query dimension)) (joined_row store snapshot row dimension) []) unnamed

-- and what the query takes is taken of each filter that was passed
asked-all : (takes_it : ℕ → Bool) (passed count : ℕ) → list_all takes_it (range_with_len 0 count) ≡ true
    → list_all (asked takes_it passed) (range_with_len 0 count) ≡ true
asked-all takes_it passed count holds =
    (all-asked takes_it passed count).1 (λ dimension low has. at-each takes_it count holds dimension low)

-- two tests that are true together are the same
pub same-tests : (a b : Bool) → (a ≡ true → b ≡ true) → (b ≡ true → a ≡ true) → a ≡ b
same-tests true b to from = sym (to refl)
same-tests false true to from = from refl
same-tests false false to from = refl

no-bit : (bits : List ℕ) (row slot : ℕ) → list_all (λ word. eqb word 0) bits ≡ true → row < length bits → Has (get_or bits row 0) slot → ⊥
no-bit bits row slot empty low has =
    let zero_word : get_or bits row 0 ≡ 0 = eqb-true (get_or bits row 0) 0 (AllPass-from_list_all (λ word. eqb word 0) bits empty row 0 low) in
    none-in slot (subst (λ word. Has word slot) zero_word has)

-- a version that a query sees is below its extent
abbrev pub SeesBelow : Store → (snapshot extent : ℕ) → Type 0
SeesBelow store snapshot extent = (position : ℕ) → IfSome (slice_get store.versions position)
    (λ version. (version.begin ≤ snapshot) ↔ (position < extent))

below-true : (position extent : ℕ) → position < extent → nat_lt position extent ≡ true
below-true position extent low = grind (arith, nat_tests)

-- a bit of a batch that is through says whether the query keeps the version
pub row-agrees : (state : State) (flight : Flight) (entry : OnRoster) (extent : ℕ) → AreSoundFilters state → IsSoundOrder state.filters
    → (has_passed_all state.filters flight ≡ true) ⊎ (is_empty flight ≡ true) → IsSoundBatch (frame_words state) (tables_of state) state.lives state.accepted flight → Contains flight.roster entry
    → IsOver (tables_of state).schema entry.query → SeesBelow (tables_of state) entry.snapshot extent
    → (row : ℕ) → row < flight.rows.count → (version : PlainVersion) → slice_get (tables_of state).versions (flight.rows.first + row) ≡ Some version
    → eqb (bit_at (get_or flight.rows.bits row 0) entry.slot) 1
    ≡ (nat_lt (flight.rows.first + row) extent && (is_visible version.begin version.end entry.snapshot
    && is_kept entry.query (joined (tables_of state) entry.query entry.snapshot version.row)))
row-agrees state flight entry extent filters order through sound on over sees row low version found =
    same-tests (eqb (bit_at (get_or flight.rows.bits row 0) entry.slot) 1) (below && (seen && (fact && all_taken)))
    (λ is. to_kept (eqb-true (bit_at (get_or flight.rows.bits row 0) entry.slot) 1 is))
    (λ is. from_kept is)
  where
    store : Store
    store = tables_of state

    row_of : Joined
    row_of = joined store entry.query entry.snapshot version.row

    below : Bool
    below = nat_lt (flight.rows.first + row) extent

    seen : Bool
    seen = is_visible version.begin version.end entry.snapshot

    fact : Bool
    fact = passes entry.query.fact version.row

    all_asked : Bool
    all_asked = list_all (asked (takes_at entry.query row_of) flight.rows.passed) (range_with_len 0 (length store.schema.dimensions))

    all_taken : Bool
    all_taken = list_all (takes_at entry.query row_of) (range_with_len 0 (length entry.query.choices))

    of_row : IsSoundRow state.lives.filters (tables_of state) flight row version
    of_row = some-at (IsSoundRow state.lives.filters (tables_of state) flight row) (slice_get store.versions (flight.rows.first + row)) version found (sound.rows row low)

    bits : Has (get_or flight.rows.bits row 0) entry.slot ↔ IsTrue (keeps_so_far store flight entry version)
    bits = of_row.bits entry on

    inside : row < length flight.rows.bits
    inside = let count = sound.bits in omega arith

    to_kept : Has (get_or flight.rows.bits row 0) entry.slot → (below && (seen && (fact && all_taken))) ≡ true
    to_kept has =
        let parts = all-three seen fact all_asked (bits.0 has) in
        let taken : all_taken ≡ true = ⊎_elim
        (λ passed. taken-all store entry.query entry.snapshot flight.rows.passed version.row over (passed-all state flight filters order passed) parts.2)
        (λ empty. absurd (no-bit flight.rows.bits row entry.slot empty inside has)) through in
        let came : version.begin ≤ entry.snapshot = begun-by version.begin version.end entry.snapshot parts.0 in
        let position : flight.rows.first + row < extent =
        (some-at (λ v. (v.begin ≤ entry.snapshot) ↔ (flight.rows.first + row < extent)) (slice_get store.versions (flight.rows.first + row)) version found
        (sees (flight.rows.first + row))).0 came in
        ap (λ t. t && (seen && (fact && all_taken))) (below-true (flight.rows.first + row) extent position)
        ∙ three-all seen fact all_taken parts.0 parts.1 taken

    from_kept : (below && (seen && (fact && all_taken))) ≡ true → eqb (bit_at (get_or flight.rows.bits row 0) entry.slot) 1 ≡ true
    from_kept is =
        let parts = all-three seen fact all_taken (second_true below (seen && (fact && all_taken)) is) in
        let count = over.choices in
        eq-eqb (bit_at (get_or flight.rows.bits row 0) entry.slot) 1
        (bits.1 (three-all seen fact all_asked parts.0 parts.1
        (asked-all (takes_at entry.query row_of) flight.rows.passed (length store.schema.dimensions)
        (subst (λ n. list_all (takes_at entry.query row_of) (range_with_len 0 n) ≡ true) count parts.2))))
