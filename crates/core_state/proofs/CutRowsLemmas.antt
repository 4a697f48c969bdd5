-- The rows of a batch that is cut: their bits are what the queries on its roster say of their versions.
use Rattle.core_state.proofs.Words.{◌*◌, ◌+◌, ◌-◌, ◌<◌, ◌∙◌, ◌≡◌, ◌≤◌, All, All-contains, All-contains_itself, All-filter, ap, arith, bit_at, bit_at-zero, bits_of, Bool, cond, Contains, drop, end_in, eq-eqb, eqb, false, filter, filter_passes, first_in, Flight, frame_words, get_or, get_or-map, get_or-map-range_with_len, Has, has_passed, is_visible, IsOnRoster, IsSettled, IsSound, IsSoundBatch, IsSoundRow, joined, keeps_so_far, key_number, key_numbers, length, length-map, length-map-range_with_len, length-take-le, List, list_all, list_any, list_any_at, map, None, OnRoster, passes, PlainVersion, QueryLife, range_with_len, refl, roster_of, rows_to_cut, running_at, same_Some, slice_get, slots_of, SlotState, Some, State, Store, subst, sym, tables_of, takes, takes_at, takes_version, true, versions_from, versions_in, ℕ}
use Rattle.std.specs.Prelude.{◌&&◌}
use Rattle.std.proofs.lemmas.List.{get_or-drop, get_or-take, length-drop}
use Rattle.std.proofs.lemmas.Option.{get_or_from_slice_get}
use Rattle.core_state.proofs.CutFoundLemmas.{has-any, has-at, kept-there}
use Rattle.core_state.proofs.CutNumberLemmas.{get_or-of_rows, length-of_rows}
use Rattle.core_state.proofs.CutRosterLemmas.{roster-own}
use Rattle.core_state.proofs.FoundLemmas.{some-by}
use Rattle.core_state.proofs.GiveLemmas.{each-at}
use Rattle.core_state.proofs.KeyedLemmas.{filter-there}

-- the batch that is cut, in flight
abbrev pub cut_flight : State → Flight
cut_flight state = record { rows = rows_to_cut state; roster = roster_of state; hand = None }

-- the versions of a cut are as many as its positions
length-cut : (versions : List PlainVersion) (first end : ℕ) → end ≤ length versions → length (versions_from first end versions) ≡ end - first
length-cut versions first end within =
    length-take-le (end - first) (drop first versions) (let rest = length-drop first versions in omega arith)

-- the version of a row of a cut
version-cut : (versions : List PlainVersion) (first end row : ℕ) (version d : PlainVersion) → row < end - first
    → slice_get versions (first + row) ≡ Some version → get_or (versions_from first end versions) row d ≡ version
version-cut versions first end row version d low is =
    get_or-take (end - first) (drop first versions) row d low
    ∙ get_or-drop first versions row d
    ∙ get_or_from_slice_get versions (first + row) version d is

same-tests : (a b t : Bool) → t ≡ true → (a && (b && t)) ≡ (a && b)
same-tests true true t is = is
same-tests true false t is = refl
same-tests false b t is = refl

-- before any filter, a query keeps a version where it sees it and its condition on the fact table holds
keeps-cut : (store : Store) (flight : Flight) (entry : OnRoster) (version : PlainVersion) → flight.rows.passed ≡ 0
    → keeps_so_far store flight entry version ≡ takes_version version entry
keeps-cut store flight entry version nothing =
    same-tests (is_visible version.begin version.end entry.snapshot) (passes entry.query.fact version.row)
    (list_all asks (range_with_len 0 (length store.schema.dimensions)))
    (each-at asks (length store.schema.dimensions) (λ dimension low.
    ap (λ passed. cond {A = Bool} (eqb (bit_at passed dimension) 1) (taken dimension) true) nothing
    ∙ ap (λ bit. cond {A = Bool} (eqb bit 1) (taken dimension) true) (bit_at-zero dimension)))
  where
    taken : ℕ → Bool
    taken dimension = takes_at entry.query (joined store entry.query entry.snapshot version.row) dimension

    asks : ℕ → Bool
    asks dimension = cond {A = Bool} (has_passed flight dimension) (taken dimension) true

-- a slot's bit of a version is set where its query takes the version
bit-takes : (state : State) (version : PlainVersion) (entry : OnRoster) → Contains (roster_of state) entry
    → Has (bits_of (roster_of state) version) entry.slot → takes_version version entry ≡ true
bit-takes state version entry on has =
    let taking : List OnRoster = filter (takes_version version) (roster_of state) in
    let any = has-any (λ (e : OnRoster). e.slot) taking entry.slot has in
    let there : Contains taking any.1 = (any.0, any.2, any.3) in
    let own : running_at state any.1.slot ≡ Some any.1 = All-contains (λ e. running_at state e.slot ≡ Some e) taking any.1
    (All-filter (takes_version version) (λ e. running_at state e.slot ≡ Some e) (roster_of state) (roster-own state)) there in
    let itself : running_at state entry.slot ≡ Some entry =
    All-contains (λ e. running_at state e.slot ≡ Some e) (roster_of state) entry (roster-own state) on in
    subst (λ e. takes_version version e ≡ true) (same_Some any.1 entry (sym own ∙ ap (running_at state) any.4 ∙ itself))
    (All-contains (λ e. takes_version version e ≡ true) taking any.1 (filter_passes (takes_version version) (roster_of state)) there)

takes-bit : (state : State) (version : PlainVersion) (entry : OnRoster) → Contains (roster_of state) entry
    → takes_version version entry ≡ true → Has (bits_of (roster_of state) version) entry.slot
takes-bit state version entry on takes =
    let taking : List OnRoster = filter (takes_version version) (roster_of state) in
    let there : Contains taking entry = kept-there (takes_version version) (roster_of state) entry on takes in
    subst (λ e. Has (slots_of taking) e.slot) there.2 (has-at (λ (e : OnRoster). e.slot) 0 taking there.0 entry there.1)

-- a slot that has a bit of a version is on the roster
bit-on : (state : State) (version : PlainVersion) (slot : ℕ) → Has (bits_of (roster_of state) version) slot
    → list_any (λ entry. eqb entry.slot slot) (roster_of state) ≡ true
bit-on state version slot has =
    let taking : List OnRoster = filter (takes_version version) (roster_of state) in
    let any = has-any (λ (e : OnRoster). e.slot) taking slot has in
    let there : Contains (roster_of state) any.1 = All-contains (Contains (roster_of state)) taking any.1
    (All-filter (takes_version version) (Contains (roster_of state)) (roster_of state) (All-contains_itself (roster_of state))) (any.0, any.2, any.3) in
    list_any_at (λ entry. eqb entry.slot slot) (roster_of state) there.0 any.1 there.1
    (ap (λ (e : OnRoster). eqb e.slot slot) there.2 ∙ eq-eqb any.1.slot slot any.4)

-- a dimension that has a filter is below the number of keys in a row
key-inside : (state : State) → IsSettled (tables_of state) → IsSound state → (dimension : ℕ) → Has state.lives.filters dimension → dimension < 8
key-inside state settled sound dimension has =
    let there = filter-there (tables_of state).schema dimension ((sound.filters.set dimension).0 has) in
    let low = there.0 in
    let few : length (tables_of state).schema.dimensions ≤ 8 = settled.declared.limits.dimensions in
    omega arith

row-cut : (state : State) → IsSettled (tables_of state) → IsSound state → end_in state ≤ versions_in state → (row : ℕ)
    → row < end_in state - first_in state → (version : PlainVersion)
    → slice_get (tables_of state).versions (first_in state + row) ≡ Some version
    → IsSoundRow state.lives.filters (tables_of state) (cut_flight state) row version
row-cut state settled sound within row low version is = record {
  keys = λ dimension has.
      let inside : dimension < 8 = key-inside state settled sound dimension has in
      get_or-of_rows keys (λ v. length-map-range_with_len (key_number (tables_of state) v.row) 0 8) cut row dimension version 0 many inside
      ∙ ap (λ v. get_or (keys v) dimension 0) there
      ∙ get_or-map-range_with_len (key_number (tables_of state) version.row) 0 8 dimension dimension 0 inside (omega arith);
  bits = λ entry on. (
    λ has. keeps-cut (tables_of state) (cut_flight state) entry version refl
        ∙ bit-takes state version entry on (subst (λ bits. Has bits entry.slot) bits has),
    λ keeps. subst (λ bits. Has bits entry.slot) (sym bits)
        (takes-bit state version entry on (sym (keeps-cut (tables_of state) (cut_flight state) entry version refl) ∙ keeps)),
  );
  others = λ slot has. bit-on state version slot (subst (λ bits. Has bits slot) bits has);
}
  where
    cut : List PlainVersion
    cut = versions_from (first_in state) (end_in state) (tables_of state).versions

    keys : PlainVersion → List ℕ
    keys v = key_numbers (tables_of state) v.row

    many : row < length cut
    many = let long = length-cut (tables_of state).versions (first_in state) (end_in state) within in omega arith

    there : get_or cut row version ≡ version
    there = version-cut (tables_of state).versions (first_in state) (end_in state) row version version low is

    bits : get_or (map (bits_of (roster_of state)) cut) row 0 ≡ bits_of (roster_of state) version
    bits = get_or-map (bits_of (roster_of state)) cut row version 0 many ∙ ap (bits_of (roster_of state)) there

-- the batch that is cut is sound where its roster is
pub batch-cut : (state : State) (queries : List QueryLife) (slots : List SlotState)
    → IsSettled (tables_of state) → IsSound state → first_in state ≤ end_in state → end_in state ≤ versions_in state
    → All (IsOnRoster (record state.lives { queries = queries; slots = slots }) state.accepted) (roster_of state)
    → IsSoundBatch (frame_words state) (tables_of state) (record state.lives { queries = queries; slots = slots }) state.accepted (cut_flight state)
batch-cut state queries slots settled sound ordered within roster =
    let cut : List PlainVersion = versions_from (first_in state) (end_in state) (tables_of state).versions in
    let long : length cut ≡ end_in state - first_in state = length-cut (tables_of state).versions (first_in state) (end_in state) within in
    record {
      within = let inside : end_in state ≤ length (tables_of state).versions = within in omega arith;
      bits = length-map cut (bits_of (roster_of state)) ∙ long;
      keys = length-of_rows (λ v. key_numbers (tables_of state) v.row)
          (λ v. length-map-range_with_len (key_number (tables_of state) v.row) 0 8) cut ∙ ap (λ n. n * 8) long;
      room = refl;
      roster = roster;
      slots = refl;
      rows = λ row low. some-by (IsSoundRow state.lives.filters (tables_of state) (cut_flight state) row)
          (slice_get (tables_of state).versions (first_in state + row))
          (λ version is. row-cut state settled sound within row low version is);
    }
