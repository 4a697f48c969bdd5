-- What a distributor folds into the groups of a query is what the core folds.
use Rattle.core_state.proofs.Words.{◌++◌, ◌+◌, ◌<◌, ◌∙◌, ◌∷◌, ◌≡◌, [], All, All-contains, All-head, All-tail, all_at, ap, append-nil, append_assoc, AreKeyedTablesOf, arith, bit_at, cond, Contains, DimensionRow, drop, eqb, filter_map, Flight, frame_words, get_or, grouped_of, Has, HasKeyNumbers, IfSome, is_visible, IsOnRoster, IsOver, IsSound, IsSoundBatch, IsSoundRow, Joined, joined, joined_by_keys, KeyedStore, length, List, list_all, map, None, OnRoster, Option, option_map, passes, plain, plain_version, PlainVersion, Query, range_with_len, refl, Roomy, rows_for, slice_get, Some, State, Store, subst, sym, tables_of, take, takes_at, true, Version, versions_for, versions_of, with_batch, with_row, with_rows, with_versions, ℕ}
use Rattle.std.proofs.lemmas.Option.{slice_get-map}
use Rattle.query_meaning.specs.KeptTables.{rows_of_all}
use Rattle.query_meaning.specs.Read.{NamesItsPlaces, value_by_key}
use Rattle.core_state.proofs.DistributeLemmas.{FoldsOne, rows-folded}
use Rattle.core_state.proofs.FoundLemmas.{some-at}
use Rattle.core_state.proofs.GiveLemmas.{all-three, asked}
use Rattle.core_state.proofs.GivenLemmas.{entry-over}
use Rattle.core_state.proofs.HandedKeyLemmas.{joined-by-key}
use Rattle.core_state.proofs.HandedListLemmas.{all-versions, same-versions, slice_get-drop}

-- the groups of rows, with a version more by its key numbers, are the groups of the rows and the version joined by them
abbrev pub FoldsByKey : Type 0
FoldsByKey = (query : Query) (dims : List (Roomy DimensionRow)) (version : Version) (rows : List Joined) → NamesItsPlaces query
    → with_row (value_by_key dims version) (grouped_of query rows) ≡ grouped_of query (rows ++ joined_by_keys (rows_of_all dims) query version ∷ [])

-- and so with some versions more
versions-folded : FoldsByKey → (query : Query) (dims : List (Roomy DimensionRow)) → NamesItsPlaces query → (rows : List Joined) (versions : List Version)
    → with_versions dims versions (grouped_of query rows) ≡ grouped_of query (rows ++ map (joined_by_keys (rows_of_all dims) query) versions)
versions-folded folds query dims named rows [] = ap (grouped_of query) (sym (append-nil rows))
versions-folded folds query dims named rows (version ∷ versions) =
    ap (with_versions dims versions) (folds query dims version rows named)
    ∙ versions-folded folds query dims named (rows ++ joined_by_keys (rows_of_all dims) query version ∷ []) versions
    ∙ ap (grouped_of query)
    (append_assoc rows (joined_by_keys (rows_of_all dims) query version ∷ []) (map (joined_by_keys (rows_of_all dims) query) versions))

-- a version with its key numbers that a query sees
abbrev IsSeen : KeyedStore → (snapshot : ℕ) → Version → Type 0
IsSeen tables snapshot version =
    HasKeyNumbers tables.schema tables.dimensions version × (is_visible version.begin version.end snapshot ≡ true)

-- versions that a query sees are joined by their key numbers as by their keys
joined-by-keys : (tables : KeyedStore) (query : Query) (snapshot : ℕ) → IsOver tables.schema query → (versions : List Version)
    → All (IsSeen tables snapshot) versions
    → map (joined_by_keys tables.dimensions query) versions
    ≡ map (λ version. joined (plain tables) query snapshot version.row) (map plain_version versions)
joined-by-keys tables query snapshot over [] all = refl
joined-by-keys tables query snapshot over (version ∷ versions) all =
    let head = All-head (IsSeen tables snapshot) version versions all in
    let same = joined-by-key tables query snapshot version over head.0 head.1 in
    let rest = joined-by-keys tables query snapshot over versions (All-tail (IsSeen tables snapshot) version versions all) in
    λ i. sym same i ∷ rest i

-- the versions that a batch brings a query are the same by their rows' numbers and by what stands beside them
same-rows : (tables : KeyedStore) (flight : Flight) (entry : OnRoster) → length flight.rows.bits ≡ flight.rows.count
    → rows_for (plain tables) flight.rows entry
    ≡ map (λ version. joined (plain tables) entry.query entry.snapshot version.row)
    (map plain_version (versions_for entry.slot flight.rows.bits (versions_of flight.rows tables.versions)))
same-rows tables flight entry count =
    ap (map row_of) (
    (λ i. filter_map (λ row. cond {A = Option PlainVersion} (eqb (bit_at (get_or flight.rows.bits row 0) entry.slot) 1) (at row i) None)
    (range_with_len 0 (length flight.rows.bits)))
    ∙ same-versions entry.slot flight.rows.bits (drop flight.rows.first tables.versions)
    ∙ ap (λ n. map plain_version (versions_for entry.slot flight.rows.bits (take n (drop flight.rows.first tables.versions)))) count)
  where
    row_of : PlainVersion → Joined
    row_of version = joined (plain tables) entry.query entry.snapshot version.row

    at : (row : ℕ) → slice_get (map plain_version tables.versions) (flight.rows.first + row)
        ≡ slice_get (map plain_version (drop flight.rows.first tables.versions)) row
    at row =
        slice_get-map plain_version tables.versions (flight.rows.first + row)
        ∙ ap (option_map plain_version) (sym (slice_get-drop tables.versions flight.rows.first row))
        ∙ sym (slice_get-map plain_version (drop flight.rows.first tables.versions) row)

-- each of them is seen by the query
seen : (state : State) (tables : KeyedStore) (flight : Flight) (entry : OnRoster) → plain tables ≡ tables_of state
    → All (HasKeyNumbers tables.schema tables.dimensions) tables.versions → IsSoundBatch (frame_words state) (tables_of state) state.lives state.accepted flight → Contains flight.roster entry
    → All (IsSeen tables entry.snapshot) (versions_for entry.slot flight.rows.bits (versions_of flight.rows tables.versions))
seen state tables flight entry same keyed sound on =
    subst (λ n. All (IsSeen tables entry.snapshot) (versions_for entry.slot flight.rows.bits (take n (drop flight.rows.first tables.versions))))
    sound.bits
    (all-versions (IsSeen tables entry.snapshot) entry.slot flight.rows.bits (drop flight.rows.first tables.versions)
    (λ row low has. subst (λ o. IfSome o (IsSeen tables entry.snapshot)) (sym (slice_get-drop tables.versions flight.rows.first row))
    (by_found row (let count = sound.bits in omega arith) has (slice_get tables.versions (flight.rows.first + row)) refl)))
  where
    by_found : (row : ℕ) → row < flight.rows.count → Has (get_or flight.rows.bits row 0) entry.slot → (o : Option Version)
        → slice_get tables.versions (flight.rows.first + row) ≡ o → IfSome o (IsSeen tables entry.snapshot)
    by_found row low has None is = tt
    by_found row low has (Some version) is =
        let place : ℕ = flight.rows.first + row in
        let there : slice_get (tables_of state).versions place ≡ Some (plain_version version) =
        ap (λ (store : Store). slice_get store.versions place) (sym same) ∙ slice_get-map plain_version tables.versions place
        ∙ ap (option_map plain_version) is in
        let of_row : IsSoundRow state.lives.filters (tables_of state) flight row (plain_version version) =
        some-at (IsSoundRow state.lives.filters (tables_of state) flight row) (slice_get (tables_of state).versions place) (plain_version version) there (sound.rows row low) in
        let row_of : Joined = joined (tables_of state) entry.query entry.snapshot version.row in (
          some-at (HasKeyNumbers tables.schema tables.dimensions) (slice_get tables.versions place) version is
              (all_at (HasKeyNumbers tables.schema tables.dimensions) tables.versions place keyed),
          (all-three (is_visible version.begin version.end entry.snapshot) (passes entry.query.fact version.row)
              (list_all (asked (takes_at entry.query row_of) flight.rows.passed) (range_with_len 0 (length (tables_of state).schema.dimensions)))
              ((of_row.bits entry on).0 has)).0,
        )

pub batch-folded : FoldsByKey → FoldsOne → (state : State) (tables : KeyedStore) (dims : List (Roomy DimensionRow)) (flight : Flight) (entry : OnRoster) (rows : List Joined)
    → IsSound state → AreKeyedTablesOf state tables dims → Contains state.scan.flights flight → Contains flight.roster entry
    → with_batch dims flight.rows tables.versions entry.slot (grouped_of entry.query rows)
    ≡ with_rows (rows_for (tables_of state) flight.rows entry) (grouped_of entry.query rows)
batch-folded by_key one state tables dims flight entry rows sound are flies on =
    versions-folded by_key entry.query dims over.named rows versions
    ∙ ap (λ more. grouped_of entry.query (rows ++ more))
    (ap (λ dimensions. map (joined_by_keys dimensions entry.query) versions) are.dimensions
    ∙ joined-by-keys tables entry.query entry.snapshot over versions (seen state tables flight entry are.tables.same are.tables.keyed batch on)
    ∙ sym (same-rows tables flight entry batch.bits)
    ∙ ap (λ store. rows_for store flight.rows entry) are.tables.same)
    ∙ sym (rows-folded one entry.query rows (rows_for (tables_of state) flight.rows entry))
  where
    versions : List Version
    versions = versions_for entry.slot flight.rows.bits (versions_of flight.rows tables.versions)

    batch : IsSoundBatch (frame_words state) (tables_of state) state.lives state.accepted flight
    batch = All-contains (IsSoundBatch (frame_words state) (tables_of state) state.lives state.accepted) state.scan.flights flight sound.batches flies

    over : IsOver tables.schema entry.query
    over = subst (λ store. IsOver store.schema entry.query) (sym are.tables.same)
        (entry-over state sound entry (All-contains (IsOnRoster state.lives state.accepted) flight.roster entry batch.roster on))
