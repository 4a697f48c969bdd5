-- Key numbers stand for keys.
use Rattle.std.proofs.Common.{◌≡◌, ℕ, zero, suc, ◌≤◌, Bool, true, false, cond, ◌==◌, nat_le, List, [], ◌∷◌, length, map, get_or, Option, Some, None, slice_get, slice_index_or, refl, ap, sym, subst, ◌∙◌, arith}
use Rattle.std.specs.Prelude.{Contains, IfSome, option_map}
use Rattle.std.specs.List.{All, Any, count_by, filter, find, position_or_len, range_with_len}
use Rattle.std.specs.Option.{option_map_or}
use Rattle.std.specs.Cmp.{Equal-is}
use Rattle.std.proofs.lemmas.Bool.Decides.{nat_tests, Decides-eqb}
use Rattle.std.proofs.lemmas.List.Elements.{All-contains, All-filter, All-head, All-tail, All-weaker, filter_passes}
use Rattle.std.proofs.lemmas.List.Quantifiers.{position-Some}
use Rattle.std.proofs.lemmas.List.Sums.{length-filter}
use Rattle.star_values.specs.declared.value.Value as cell
use Rattle.star_values.specs.OrderLaws.{value_cmp-equal}
use Rattle.star_values.specs.Value.{value_cmp}
use Rattle.star_plan.specs.declared.column_def.ColumnDef.{ColumnDef}
use Rattle.star_plan.specs.declared.schema.Schema.{Schema}
use Rattle.star_plan.specs.Columns.{fact_columns}
use Rattle.star_plan.specs.Joined.{Joined, kept_of}
use Rattle.star_plan.specs.Over.{IsOver}
use Rattle.star_plan.specs.Row.{value_in}
use Rattle.star_plan.specs.Test.{Query}
use Rattle.star_plan.specs.Declaration.{references}
use Rattle.fact_versions.specs.declared.version.Version.{Version}
use Rattle.fact_versions.specs.Visible.{is_visible}
use Rattle.dimension_rows.specs.declared.dimension_row.DimensionRow.{DimensionRow}
use Rattle.dimension_rows.specs.Keys.{AreKeyed, has_key, is_key, key_at, key_of}
use Rattle.query_meaning.specs.Alone.{foreign_key, is_matched, joined, joined_row, kept, names, row_of_key, visible}
use Rattle.query_meaning.specs.Keyed.{HasKeyNumbers, IsKeyed, KeyedStore, joined_by_keys, kept_by_keys, key_number, plain, plain_version, row_at_key}
use Rattle.query_meaning.specs.Settled.{IsMatched, IsPlaceOf, IsSettled}
use Rattle.query_meaning.specs.Store.{PlainVersion, Store, rows_in}
use Rattle.query_meaning.proofs.LoadedLemmas.{keyed_in}
use Rattle.query_meaning.proofs.FoundLemmas.{both_true, find_narrower, find_position, one_passes, position_there, second_true, slice_get_at}

abbrev no_row : DimensionRow
no_row = record { row = []; commit = 0 }

begun_by : (begin end snapshot : ℕ) → is_visible begin end snapshot ≡ true → begin ≤ snapshot
begun_by begin end snapshot seen = grind (arith, nat_tests)

loaded_by : (commit begin snapshot : ℕ) → commit ≤ begin → begin ≤ snapshot → nat_le commit snapshot ≡ true
loaded_by commit begin snapshot low high = grind (arith, nat_tests)

-- The row at the place of a key.

at_place : (rows : List DimensionRow) (key : cell.Value) (commit place : ℕ) → IsPlaceOf rows key commit place
    → slice_get rows place ≡ Some (get_or rows place no_row)
at_place rows key commit place is = slice_get_at rows place no_row (position-Some (has_key key) rows place no_row is.found).0

matched_there : (rows : List DimensionRow) (key : cell.Value) (commit place snapshot : ℕ) → commit ≤ snapshot → IsPlaceOf rows key commit place
    → is_matched snapshot key (get_or rows place no_row) ≡ true
matched_there rows key commit place snapshot low is =
    let entry = get_or rows place no_row in
    let loaded : entry.commit ≤ commit =
    subst (λ (found : Option DimensionRow). IfSome found (λ e. e.commit ≤ commit)) (at_place rows key commit place is) is.loaded in
    both_true (nat_le entry.commit snapshot) (has_key key entry) (loaded_by entry.commit commit snapshot loaded low)
    (position-Some (has_key key) rows place no_row is.found).1

-- the row of the key is the row at its place
row_at_place : (rows : List DimensionRow) (key : cell.Value) (commit place snapshot : ℕ) → commit ≤ snapshot → IsPlaceOf rows key commit place
    → row_of_key rows snapshot key ≡ option_map_or (λ entry. entry.row) (slice_get rows place) []
row_at_place rows key commit place snapshot low is =
    let entry = get_or rows place no_row in
    let narrowed : find (is_matched snapshot key) rows ≡ Some entry =
    find_narrower (has_key key) (is_matched snapshot key) rows entry
    (λ e passes. second_true (nat_le e.commit snapshot) (has_key key e) passes)
    (find_position (has_key key) rows place no_row is.found) (matched_there rows key commit place snapshot low is) in
    ap (λ found. option_map_or (λ entry. entry.row) found []) (narrowed ∙ sym (at_place rows key commit place is))

-- The foreign key of a dimension that is referenced.

references_by : (dimension : ℕ) (column : ColumnDef) → column.target ≡ Some dimension → references dimension column ≡ true
references_by dimension column e =
    ap (λ target. option_map_or (λ t. t == dimension) target false) e ∙ (Decides-eqb dimension dimension).1 refl

-- the key of a row for a dimension that a column references
key_there : (schema : Schema) (dimension : ℕ) (row : List cell.Value) → Any (λ column. column.target ≡ Some dimension) (fact_columns schema)
    → foreign_key schema dimension row ≡ Some (value_in row (position_or_len (references dimension) (fact_columns schema)))
key_there schema dimension row any =
    let columns = fact_columns schema in
    let is : references dimension (slice_index_or columns any.0 any.1) ≡ true =
    ap (references dimension) any.3 ∙ references_by dimension any.1 any.4 in
    ap (option_map (value_in row)) (position_there (references dimension) columns any.0 any.1 any.2 is)

-- Joined rows.

same_where_named : (is : Bool) (row other : List cell.Value) → (is ≡ true → row ≡ other) → cond is row [] ≡ cond is other []
same_where_named true row other same = same refl
same_where_named false row other same = refl

same_row : (store : KeyedStore) (query : Query) (snapshot dimension : ℕ) (version : Version) → IsOver store.schema query
    → HasKeyNumbers store.schema store.dimensions version → version.begin ≤ snapshot → names query dimension ≡ true
    → joined_row (plain store) snapshot version.row dimension ≡ row_at_key store.dimensions version dimension
same_row store query snapshot dimension version over keyed low named =
    let rows = rows_in store.dimensions dimension in
    let key = value_in version.row (position_or_len (references dimension) (fact_columns store.schema)) in
    let there = key_there store.schema dimension version.row (over.referenced dimension named) in
    let is : IsPlaceOf rows key version.begin (key_number version dimension) =
    subst (λ (found : Option cell.Value). IfSome found (λ k. IsPlaceOf rows k version.begin (key_number version dimension))) there (keyed.places dimension) in
    ap (λ found. option_map_or (row_of_key rows snapshot) found []) there
    ∙ row_at_place rows key version.begin (key_number version dimension) snapshot low is

same_joined : (store : KeyedStore) (query : Query) (snapshot : ℕ) (version : Version) → IsOver store.schema query
    → HasKeyNumbers store.schema store.dimensions version → is_visible version.begin version.end snapshot ≡ true
    → joined (plain store) query snapshot version.row ≡ joined_by_keys store.dimensions query version
same_joined store query snapshot version over keyed seen =
    let low = begun_by version.begin version.end snapshot seen in
    let same : (dimension : ℕ) → cond (names query dimension) (joined_row (plain store) snapshot version.row dimension) []
    ≡ cond (names query dimension) (row_at_key store.dimensions version dimension) [] =
    λ dimension. same_where_named (names query dimension) _ _ (same_row store query snapshot dimension version over keyed low) in
    λ i. record {
      fact = version.row;
      dimensions = map (λ dimension. same dimension i) (range_with_len 0 (length query.choices));
    }

-- Lists of versions that are seen.

step : (seen : Bool) (f : List cell.Value → Joined) (g : Version → Joined) (version : Version) (rest : List PlainVersion) (others : List Version)
    → (seen ≡ true → f version.row ≡ g version) → map f (map (λ v. v.row) rest) ≡ map g others
    → map f (map (λ v. v.row) (cond seen (plain_version version ∷ rest) rest)) ≡ map g (cond seen (version ∷ others) others)
step true f g version rest others same more = λ i. same refl i ∷ more i
step false f g version rest others same more = more

same_lists : (snapshot : ℕ) (f : List cell.Value → Joined) (g : Version → Joined) (versions : List Version)
    → All (λ version. is_visible version.begin version.end snapshot ≡ true → f version.row ≡ g version) versions
    → map f (map (λ v. v.row) (filter (λ (v : PlainVersion). is_visible v.begin v.end snapshot) (map plain_version versions)))
    ≡ map g (filter (λ (v : Version). is_visible v.begin v.end snapshot) versions)
same_lists snapshot f g [] same = refl
same_lists snapshot f g (version ∷ versions) same =
    let P : Version → Type 0 = λ v. is_visible v.begin v.end snapshot ≡ true → f v.row ≡ g v in
    step (is_visible version.begin version.end snapshot) f g version _ _ (All-head P version versions same)
    (same_lists snapshot f g versions (All-tail P version versions same))

-- the rows that are kept by key numbers are those that are kept by keys
pub kept_by_keys-is : (store : KeyedStore) (query : Query) (snapshot : ℕ) → IsOver store.schema query → IsKeyed store
    → kept_by_keys store query snapshot ≡ kept (plain store) query snapshot
kept_by_keys-is store query snapshot over keyed =
    ap (kept_of query) (sym (same_lists snapshot (joined (plain store) query snapshot) (joined_by_keys store.dimensions query) store.versions
    (All-weaker (HasKeyNumbers store.schema store.dimensions)
    (λ version. is_visible version.begin version.end snapshot ≡ true
    → joined (plain store) query snapshot version.row ≡ joined_by_keys store.dimensions query version)
    (λ version has seen. same_joined store query snapshot version over has seen) store.versions keyed)))

-- One row joins a version.

key_by : (key : cell.Value) (found : Option cell.Value) → is_key key found ≡ true → found ≡ Some key
key_by key None is = cc
key_by key (Some other) is = ap Some ((value_cmp-equal other key).0 ((Equal-is (value_cmp other key)).0 is))

key_at-slice_get : (rows : List DimensionRow) (place : ℕ) (entry : DimensionRow) → slice_get rows place ≡ Some entry → key_at rows place ≡ key_of entry.row
key_at-slice_get [] place entry e = cc
key_at-slice_get (first ∷ rows) zero entry e =
    let same : first ≡ entry = cc in ap (λ (found : DimensionRow). key_of found.row) same
key_at-slice_get (first ∷ rows) (suc place) entry e = key_at-slice_get rows place entry e

keyed_at : (rows : List DimensionRow) (key : cell.Value) (place : ℕ) (entry : DimensionRow) → slice_get rows place ≡ Some entry
    → has_key key entry ≡ true → key_at rows place ≡ Some key
keyed_at rows key place entry at is = key_at-slice_get rows place entry at ∙ key_by key (key_of entry.row) is

one_matched : (rows : List DimensionRow) (key : cell.Value) (commit place snapshot : ℕ) → AreKeyed rows → commit ≤ snapshot
    → IsPlaceOf rows key commit place → length (filter (is_matched snapshot key) rows) ≡ 1
one_matched rows key commit place snapshot keyed low is =
    let entry = get_or rows place no_row in
    let at = at_place rows key commit place is in
    let matched = matched_there rows key commit place snapshot low is in
    let here = keyed_at rows key place entry at (second_true (nat_le entry.commit snapshot) (has_key key entry) matched) in
    one_passes (is_matched snapshot key) rows place entry at matched
    (λ other found there passes. keyed.once key other place
    (keyed_at rows key other found there (second_true (nat_le found.commit snapshot) (has_key key found) passes)) here)

-- a version that is seen, with the rows that it is joined with
abbrev IsSeenMatched : Store → (snapshot : ℕ) → PlainVersion → Type 0
IsSeenMatched store snapshot version =
    IsMatched store.schema store.dimensions version.row version.begin × (is_visible version.begin version.end snapshot ≡ true)

seen_matched : (store : Store) (snapshot : ℕ) (version : PlainVersion) → IsSettled store → Contains (visible store snapshot) version
    → IsSeenMatched store snapshot version
seen_matched store snapshot version settled there =
    let seen : PlainVersion → Bool = λ v. is_visible v.begin v.end snapshot in
    let matched : PlainVersion → Type 0 = λ v. IsMatched store.schema store.dimensions v.row v.begin in (
      All-contains matched (visible store snapshot) version (All-filter seen matched store.versions settled.versions.matched) there,
      All-contains (λ v. seen v ≡ true) (visible store snapshot) version (filter_passes seen store.versions) there,
    )

pub one_row : (store : Store) (snapshot dimension : ℕ) (version : PlainVersion) (key : cell.Value) → IsSettled store
    → Contains (visible store snapshot) version → foreign_key store.schema dimension version.row ≡ Some key
    → count_by (is_matched snapshot key) (rows_in store.dimensions dimension) ≡ 1
one_row store snapshot dimension version key settled there references =
    let rows = rows_in store.dimensions dimension in
    let is = seen_matched store snapshot version settled there in
    let place : (p : ℕ) × IsPlaceOf rows key version.begin p =
    subst (λ (found : Option cell.Value). IfSome found (λ k. (p : ℕ) × IsPlaceOf rows k version.begin p)) references (is.0 dimension) in
    let one = one_matched rows key version.begin place.0 snapshot (keyed_in store settled dimension)
    (begun_by version.begin version.end snapshot is.1) place.1 in
    sym (length-filter (is_matched snapshot key) rows) ∙ one
