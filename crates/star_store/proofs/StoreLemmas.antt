-- The tables that statements make have values, and few versions; so the joined rows of a query have values, too, and are few.
use Rattle.std.proofs.Common.{◌≡◌, ℕ, zero, suc, ◌+◌, ◌<◌, ◌≤◌, ◌^◌, List, [], ◌∷◌, ◌++◌, length, Option, Some, None, All, refl, ap, ◌∙◌, arith, length-append}
use Rattle.std.specs.Prelude.{⊤, IfSome, map, slice_index_or, find, if◌then◌else◌}
use Rattle.std.specs.List.{range_with_len}
use Rattle.std.proofs.lemmas.List.Elements.{All-append, All-cons, All-filter, All-head, All-map, All-nil, All-push, All-set, All-tail}
use Rattle.star_values.specs.declared.value.Value.{Value}
use Rattle.star_plan.specs.Joined.{is_kept, kept_of}
use Rattle.star_plan.specs.Test.{Query}
use Rattle.star_plan.specs.declared.table.Table.TheVariants.{Fact, Dimension}
use Rattle.fact_versions.specs.Visible.{is_visible}
use Rattle.fact_versions.specs.declared.version.TheConstants.{MAX_VERSIONS}
use Rattle.dimension_rows.specs.declared.dimension_row.DimensionRow.{DimensionRow}
use Rattle.query_meaning.specs.Alone.{foreign_key, is_matched, joined, joined_row, kept, names, row_of_key, visible, visible_rows}
use Rattle.query_meaning.specs.History.{Change, DimensionDeclared, FactDeclared, Loaded, Ended, after_change, rows_by, versions_by, with_end, with_ends}
use Rattle.query_meaning.specs.Store.{PlainVersion, Store, empty_store, rows_in}
use Rattle.star_store.proofs.ValueLemmas.{AreValues, IsValue, at-or, either, filter-short, found, length-map, map_or}
use Rattle.star_store.proofs.AnswerLemmas.{HasValues}

abbrev pub EntryHasValues : DimensionRow → Type 0
EntryHasValues entry = AreValues entry.row

abbrev pub VersionHasValues : PlainVersion → Type 0
VersionHasValues version = AreValues version.row

-- the tables have values, and few versions
pub record IsKept (store : Store) : Type 0 where
  pub few : length store.versions ≤ MAX_VERSIONS
  pub versions : All VersionHasValues store.versions
  pub dimensions : All (All EntryHasValues) store.dimensions

pub empty-kept : IsKept empty_store
empty-kept = record { few = omega arith; versions = All-nil VersionHasValues; dimensions = All-nil (All EntryHasValues) }

-- a change that keeps them so
abbrev pub IsSmall : Store → Change → Type 0
IsSmall store (DimensionDeclared table) = ⊤
IsSmall store (FactDeclared table) = ⊤
IsSmall store (Loaded Fact rows) = All AreValues rows × (length store.versions + length rows ≤ MAX_VERSIONS)
IsSmall store (Loaded (Dimension dimension) rows) = All AreValues rows × (length rows < 2 ^ 64)
IsSmall store (Ended positions) = length positions ≤ length store.versions

entries : (rows : List (List DimensionRow)) (dimension : ℕ) → All (All EntryHasValues) rows → All EntryHasValues (rows_in rows dimension)
entries rows dimension h = at-or (All EntryHasValues) rows dimension [] h (All-nil EntryHasValues)

end-values : (commit : ℕ) (versions : List PlainVersion) (position : ℕ) → All VersionHasValues versions
    → All VersionHasValues (with_end commit versions position) × (length (with_end commit versions position) ≡ length versions)
end-values commit [] position h = (h, refl)
end-values commit (version ∷ versions) zero h =
    (All-cons VersionHasValues (record version { end = commit }) versions (All-head VersionHasValues version versions h) (All-tail VersionHasValues version versions h), refl)
end-values commit (version ∷ versions) (suc position) h =
    let rest = end-values commit versions position (All-tail VersionHasValues version versions h) in
    (All-cons VersionHasValues version (with_end commit versions position) (All-head VersionHasValues version versions h) rest.0, ap suc rest.1)

ends-values : (commit : ℕ) (versions : List PlainVersion) (positions : List ℕ) → All VersionHasValues versions
    → All VersionHasValues (with_ends commit versions positions) × (length (with_ends commit versions positions) ≡ length versions)
ends-values commit versions [] h = (h, refl)
ends-values commit versions (position ∷ positions) h =
    let one = end-values commit versions position h in
    let rest = ends-values commit (with_end commit versions position) positions one.0 in
    (rest.0, rest.1 ∙ one.1)

loaded-values : (commit : ℕ) (rows : List (List Value)) → All AreValues rows → All VersionHasValues (versions_by commit rows)
loaded-values commit rows h = All-map VersionHasValues (λ row. record { row = row; begin = commit; end = 0 }) rows h

loaded-entries : (commit : ℕ) (rows : List (List Value)) → All AreValues rows → All EntryHasValues (rows_by commit rows)
loaded-entries commit rows h = All-map EntryHasValues (λ row. record { row = row; commit = commit }) rows h

-- a small change keeps the tables
pub change-keeps : (store : Store) (change : Change) → IsKept store → IsSmall store change → IsKept (after_change store change)
change-keeps store (DimensionDeclared table) h small = record {
  few = h.few;
  versions = h.versions;
  dimensions = All-push (All EntryHasValues) store.dimensions [] h.dimensions (All-nil EntryHasValues);
}
change-keeps store (FactDeclared table) h small = record { few = h.few; versions = h.versions; dimensions = h.dimensions }
change-keeps store (Loaded Fact rows) h small =
    let more = versions_by (store.commits + 1) rows in
    record {
      few = omega (arith, small.1, length-append store.versions more, length-map {B = PlainVersion} (λ row. record { row = row; begin = store.commits + 1; end = 0 }) rows);
      versions = All-append VersionHasValues store.versions more h.versions (loaded-values (store.commits + 1) rows small.0);
      dimensions = h.dimensions;
    }
change-keeps store (Loaded (Dimension dimension) rows) h small = record {
  few = h.few;
  versions = h.versions;
  dimensions = All-set (All EntryHasValues) store.dimensions dimension (rows_in store.dimensions dimension ++ rows_by (store.commits + 1) rows)
      (All-append EntryHasValues (rows_in store.dimensions dimension) (rows_by (store.commits + 1) rows) (entries store.dimensions dimension h.dimensions)
      (loaded-entries (store.commits + 1) rows small.0)) h.dimensions;
}
change-keeps store (Ended positions) h small =
    let ends = ends-values (store.commits + 1) store.versions positions h.versions in
    record { few = omega (arith, h.few, ends.1); versions = ends.0; dimensions = h.dimensions }

-- ---- joined rows

key-row : (rows : List DimensionRow) (snapshot : ℕ) (key : Value) → All EntryHasValues rows → AreValues (row_of_key rows snapshot key)
key-row rows snapshot key h =
    map_or EntryHasValues AreValues (λ entry. entry.row) (find (is_matched snapshot key) rows) []
    (found EntryHasValues (is_matched snapshot key) rows h) (λ entry its. its) (All-nil IsValue)

joined_row-values : (store : Store) (snapshot : ℕ) (row : List Value) (dimension : ℕ) → IsKept store → AreValues (joined_row store snapshot row dimension)
joined_row-values store snapshot row dimension h =
    map_or (λ key. ⊤) AreValues (row_of_key (rows_in store.dimensions dimension) snapshot) (foreign_key store.schema dimension row) []
    (anything (foreign_key store.schema dimension row)) (λ key _. key-row (rows_in store.dimensions dimension) snapshot key (entries store.dimensions dimension h.dimensions))
    (All-nil IsValue)
  where
    anything : (o : Option Value) → IfSome o (λ key. ⊤)
    anything None = tt
    anything (Some key) = tt

joined-values : (store : Store) (query : Query) (snapshot : ℕ) (row : List Value) → IsKept store → AreValues row → HasValues (joined store query snapshot row)
joined-values store query snapshot row h values = record {
  fact = values;
  dimensions = All-map AreValues (λ dimension. if names query dimension then joined_row store snapshot row dimension else [])
      (range_with_len 0 (length query.choices)) (λ k d low.
      either AreValues (names query (slice_index_or (range_with_len 0 (length query.choices)) k d))
      (joined_row store snapshot row (slice_index_or (range_with_len 0 (length query.choices)) k d)) []
      (joined_row-values store snapshot row (slice_index_or (range_with_len 0 (length query.choices)) k d) h) (All-nil IsValue));
}

-- the rows that a query keeps have values
pub kept-values : (store : Store) (query : Query) (snapshot : ℕ) → IsKept store → All HasValues (kept store query snapshot)
unfolding kept_of
kept-values store query snapshot h =
    let seen = λ (version : PlainVersion). is_visible version.begin version.end snapshot in
    let rows : All AreValues (visible_rows store snapshot) =
    All-map AreValues (λ version. version.row) (visible store snapshot) (All-filter seen VersionHasValues store.versions h.versions) in
    All-filter (is_kept query) HasValues (map (joined store query snapshot) (visible_rows store snapshot))
    (All-map HasValues (joined store query snapshot) (visible_rows store snapshot)
    (λ k d low. joined-values store query snapshot (slice_index_or (visible_rows store snapshot) k d) h (rows k d low)))

-- and are few
pub kept-few : (store : Store) (query : Query) (snapshot : ℕ) → IsKept store → length (kept store query snapshot) ≤ MAX_VERSIONS
unfolding kept_of
kept-few store query snapshot h =
    let seen = λ (version : PlainVersion). is_visible version.begin version.end snapshot in
    omega (
      arith,
      h.few,
      filter-short seen store.versions,
      length-map (λ version. version.row) (visible store snapshot),
      length-map (joined store query snapshot) (visible_rows store snapshot),
      filter-short (is_kept query) (map (joined store query snapshot) (visible_rows store snapshot)),
    )
