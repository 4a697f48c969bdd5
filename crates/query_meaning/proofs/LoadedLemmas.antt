-- Rows of dimensions: what is found among them and what they keep where more are loaded.
use Rattle.std.proofs.Common.{◌≡◌, ◌↔◌, ℕ, zero, suc, ◌+◌, ◌<◌, ◌≤◌, List, [], ◌∷◌, ◌++◌, length, length-append, map, Option, Some, None, Ok, slice_get, slice_index_or, append_assoc, refl, ap, sym, subst, ◌∙◌, arith}
use Rattle.std.specs.Prelude.{◌≢◌, IfSome, IsTrue}
use Rattle.std.specs.List.{All, AllPairs}
use Rattle.std.proofs.lemmas.List.{append-nil}
use Rattle.std.proofs.lemmas.List.Elements.{All-append, All-cons, All-head, All-map, All-nil, All-tail, All-weaker}
use Rattle.std.proofs.lemmas.List.Quantifiers.{position-Some}
use Rattle.star_values.specs.declared.value.Value as cell
use Rattle.star_plan.specs.declared.schema.Schema.{Schema}
use Rattle.star_plan.specs.declared.table_def.TableDef.{TableDef}
use Rattle.star_plan.specs.Columns.{kinds_of}
use Rattle.star_plan.specs.Fits.{fits_table}
use Rattle.star_values.specs.Value.{kinds_in}
use Rattle.star_plan.specs.Declaration.{declared_dimension, declared_fact}
use Rattle.star_plan.specs.Limits.{with_dimension, with_fact}
use Rattle.star_plan.specs.Schemas.{IsDeclared, ReferencesNothing}
use Rattle.fact_versions.specs.declared.version.Version.{Version}
use Rattle.dimension_rows.specs.declared.dimension_row.DimensionRow.{DimensionRow}
use Rattle.dimension_rows.specs.declared.dimension_row.TheConstants.{MAX_DIMENSION_ROWS}
use Rattle.dimension_rows.specs.Keys.{AreKeyed, has_key, index_of, key_of}
use Rattle.query_meaning.specs.Accepted.{HaveOtherKeys}
use Rattle.query_meaning.specs.Alone.{foreign_key}
use Rattle.query_meaning.specs.History.{grown_at, rows_by}
use Rattle.query_meaning.specs.Keyed.{HasKeyNumbers, key_number}
use Rattle.query_meaning.specs.Settled.{AreRowsOf, IsMatched, IsPlaceOf, IsSettled}
use Rattle.query_meaning.specs.Store.{Store, rows_in}
use Rattle.query_meaning.proofs.ApartLemmas.{all_pairs_head, all_pairs_tail}

-- a key that has a place has it also where a row is appended
abbrev pub KeepsPlaces : Type 0
KeepsPlaces = (rows : List DimensionRow) (entry : DimensionRow) (key : cell.Value) (place : ℕ)
    → index_of rows key ≡ Some place → index_of (rows ++ entry ∷ []) key ≡ Some place

-- what the laws of declarations, of rows that fit and of rows that are appended say
pub record Laws : Type 0 where
  pub dimension : (schema : Schema) (table : TableDef) → IsDeclared schema → 0 < length table.columns → ReferencesNothing table
      → declared_dimension schema table ≡ Ok table → IsDeclared (with_dimension schema table)
  pub fact : (schema : Schema) (table : TableDef) → IsDeclared schema → 0 < length table.columns
      → declared_fact schema table ≡ Ok table → IsDeclared (with_fact schema table)
  pub fits : (table : TableDef) (row : List cell.Value) → IsTrue (fits_table table row) ↔ (kinds_in row ≡ kinds_of table.columns)
  pub kept : KeepsPlaces
  pub others : (rows : List DimensionRow) (entry : DimensionRow) (key : cell.Value)
      → key_of entry.row ≢ Some key → index_of rows key ≡ None → index_of (rows ++ entry ∷ []) key ≡ None
  pub keyed : (rows : List DimensionRow) (entry : DimensionRow) (key : cell.Value)
      → AreKeyed rows → key_of entry.row ≡ Some key → index_of rows key ≡ None → AreKeyed (rows ++ entry ∷ [])

-- Lists and options.

pub all_front : {X : Type 0} (P : X → Type 0) (xs ys : List X) → All P (xs ++ ys) → All P xs
all_front P [] ys all = All-nil P
all_front P (x ∷ xs) ys all = All-cons P x xs (All-head P x (xs ++ ys) all) (all_front P xs ys (All-tail P x (xs ++ ys) all))

pub all_at : {X : Type 0} (P : X → Type 0) (xs : List X) (place : ℕ) → All P xs → IfSome (slice_get xs place) P
all_at P [] place all = tt
all_at P (x ∷ xs) zero all = All-head P x xs all
all_at P (x ∷ xs) (suc place) all = all_at P xs place (All-tail P x xs all)

pub if_some_weaker : {X : Type 0} (P Q : X → Type 0) (found : Option X) → ((x : X) → P x → Q x) → IfSome found P → IfSome found Q
if_some_weaker P Q None more is = tt
if_some_weaker P Q (Some x) more is = more x is

if_some_both : {X : Type 0} (P Q R : X → Type 0) (found : Option X) → ((x : X) → P x → Q x → R x) → IfSome found P → IfSome found Q → IfSome found R
if_some_both P Q R None more is also = tt
if_some_both P Q R (Some x) more is also = more x is also

slice_get_front : {X : Type 0} (xs ys : List X) (place : ℕ) → place < length xs → slice_get (xs ++ ys) place ≡ slice_get xs place
slice_get_front [] ys place low = absurd (omega arith)
slice_get_front (x ∷ xs) ys zero low = refl
slice_get_front (x ∷ xs) ys (suc place) low = slice_get_front xs ys place (omega arith)

pub length_map : {X Y : Type 0} (f : X → Y) (xs : List X) → length (map f xs) ≡ length xs
length_map f [] = refl
length_map f (x ∷ xs) = ap suc (length_map f xs)

-- Rows that are appended.

abbrev entry_by : ℕ → List cell.Value → DimensionRow
entry_by commit row = record { row = row; commit = commit }

abbrev HasKey : List cell.Value → Type 0
HasKey row = (key : cell.Value) × (key_of row ≡ Some key)

abbrev pub IsNewIn : List DimensionRow → List cell.Value → Type 0
IsNewIn rows row = IfSome (key_of row) (λ key. index_of rows key ≡ None)

-- a key that is new stays new where a row with another key is appended
new_after : Laws → (commit : ℕ) (rows : List DimensionRow) (row other : List cell.Value) (found : Option cell.Value) → key_of row ≢ found
    → IfSome found (λ key. index_of rows key ≡ None) → IfSome found (λ key. index_of (rows ++ entry_by commit row ∷ []) key ≡ None)
new_after laws commit rows row other None apart is = tt
new_after laws commit rows row other (Some key) apart is = laws.others rows (entry_by commit row) key apart is

keyed_with_more : Laws → (commit : ℕ) (rows : List DimensionRow) (more : List (List cell.Value)) → AreKeyed rows → All HasKey more
    → All (IsNewIn rows) more → AllPairs HaveOtherKeys more → AreKeyed (rows ++ rows_by commit more)
keyed_with_more laws commit rows [] keyed some new apart = subst AreKeyed (sym (append-nil rows)) keyed
keyed_with_more laws commit rows (row ∷ more) keyed some new apart =
    let entry = entry_by commit row in
    let has = All-head HasKey row more some in
    let fresh : index_of rows has.0 ≡ None =
    subst (λ (found : Option cell.Value). IfSome found (λ key. index_of rows key ≡ None)) has.1 (All-head (IsNewIn rows) row more new) in
    let rest = keyed_with_more laws commit (rows ++ entry ∷ []) more (laws.keyed rows entry has.0 keyed has.1 fresh)
    (All-tail HasKey row more some)
    (λ k d low. new_after laws commit rows row (slice_index_or more k d) (key_of (slice_index_or more k d))
    (all_pairs_head HaveOtherKeys row more apart k d low) (All-tail (IsNewIn rows) row more new k d low))
    (all_pairs_tail HaveOtherKeys row more apart) in
    subst AreKeyed (append_assoc rows (entry ∷ []) (rows_by commit more)) rest

found_with_more : KeepsPlaces → (rows more : List DimensionRow) (key : cell.Value) (place : ℕ) → index_of rows key ≡ Some place
    → index_of (rows ++ more) key ≡ Some place
found_with_more keeps rows [] key place found = subst (λ all. index_of all key ≡ Some place) (sym (append-nil rows)) found
found_with_more keeps rows (entry ∷ more) key place found =
    subst (λ all. index_of all key ≡ Some place) (append_assoc rows (entry ∷ []) more)
    (found_with_more keeps (rows ++ entry ∷ []) more key place (keeps rows entry key place found))

abbrev no_row : DimensionRow
no_row = record { row = []; commit = 0 }

place_low : (rows : List DimensionRow) (key : cell.Value) (place : ℕ) → index_of rows key ≡ Some place → place < length rows
place_low rows key place found = (position-Some (has_key key) rows place no_row found).0

place_with_more : KeepsPlaces → (rows more : List DimensionRow) (key : cell.Value) (commit place : ℕ) → IsPlaceOf rows key commit place
    → IsPlaceOf (rows ++ more) key commit place
place_with_more keeps rows more key commit place is = record {
  found = found_with_more keeps rows more key place is.found;
  loaded = subst (λ (found : Option DimensionRow). IfSome found (λ entry. entry.commit ≤ commit))
      (sym (slice_get_front rows more place (place_low rows key place is.found))) is.loaded;
}

-- what holds of the rows of each dimension still holds where those of one have grown
pub in_grown : (Q : List DimensionRow → Type 0) (dimensions : List (List DimensionRow)) (grown dimension : ℕ) (more : List DimensionRow)
    → Q (rows_in dimensions dimension) → (grown ≡ dimension → Q (rows_in dimensions dimension ++ more))
    → Q (rows_in (grown_at grown more dimensions) dimension)
in_grown Q [] grown dimension more before there = before
in_grown Q (rows ∷ dimensions) zero zero more before there = there refl
in_grown Q (rows ∷ dimensions) zero (suc dimension) more before there = before
in_grown Q (rows ∷ dimensions) (suc grown) zero more before there = before
in_grown Q (rows ∷ dimensions) (suc grown) (suc dimension) more before there =
    in_grown Q dimensions grown dimension more before (λ same. there (ap suc same))

pub matched_in_grown : KeepsPlaces → (schema : Schema) (dimensions : List (List DimensionRow)) (grown : ℕ) (more : List DimensionRow)
    (row : List cell.Value) (commit : ℕ) → IsMatched schema dimensions row commit → IsMatched schema (grown_at grown more dimensions) row commit
matched_in_grown keeps schema dimensions grown more row commit is dimension =
    if_some_weaker (λ key. (place : ℕ) × IsPlaceOf (rows_in dimensions dimension) key commit place)
    (λ key. (place : ℕ) × IsPlaceOf (rows_in (grown_at grown more dimensions) dimension) key commit place)
    (foreign_key schema dimension row)
    (λ key place. in_grown (λ rows. (at : ℕ) × IsPlaceOf rows key commit at) dimensions grown dimension more place
    (λ _. (place.0, place_with_more keeps (rows_in dimensions dimension) more key commit place.0 place.1)))
    (is dimension)

-- key numbers are the places of their keys also where the rows of a dimension have grown
pub key_numbers_in_grown : KeepsPlaces → (schema : Schema) (dimensions : List (List DimensionRow)) (grown : ℕ) (more : List DimensionRow)
    (version : Version) → HasKeyNumbers schema dimensions version → HasKeyNumbers schema (grown_at grown more dimensions) version
key_numbers_in_grown keeps schema dimensions grown more version has = record {
  count = has.count;
  places = λ dimension.
      if_some_weaker (λ key. IsPlaceOf (rows_in dimensions dimension) key version.begin (key_number version dimension))
      (λ key. IsPlaceOf (rows_in (grown_at grown more dimensions) dimension) key version.begin (key_number version dimension))
      (foreign_key schema dimension version.row)
      (λ key is. in_grown (λ rows. IsPlaceOf rows key version.begin (key_number version dimension)) dimensions grown dimension more is
      (λ _. place_with_more keeps (rows_in dimensions dimension) more key version.begin (key_number version dimension) is))
      (has.places dimension);
  others = has.others;
}

-- Rows of a dimension.

abbrev pub IsLoaded : ℕ → DimensionRow → Type 0
IsLoaded commits entry = (0 < entry.commit) × (entry.commit ≤ commits)

one_later : (commits : ℕ) (entry : DimensionRow) → IsLoaded commits entry → IsLoaded (commits + 1) entry
one_later commits entry is = (is.0, let low = is.1 in omega arith)

pub rows_later : (table : TableDef) (commits : ℕ) (rows : List DimensionRow) → AreRowsOf table commits rows → AreRowsOf table (commits + 1) rows
rows_later table commits rows are = record {
  few = are.few;
  keyed = are.keyed;
  fit = are.fit;
  loaded = All-weaker (IsLoaded commits) (IsLoaded (commits + 1)) (one_later commits) rows are.loaded;
}

new_loaded : (commits : ℕ) (rows : List (List cell.Value)) → All (IsLoaded (commits + 1)) (rows_by (commits + 1) rows)
new_loaded commits [] = All-nil (IsLoaded (commits + 1))
new_loaded commits (row ∷ rows) =
    All-cons (IsLoaded (commits + 1)) (entry_by (commits + 1) row) (rows_by (commits + 1) rows) (omega arith, omega arith) (new_loaded commits rows)

-- a row that fits a table with a column has a key
has_key_by : (columns : ℕ) (row : List cell.Value) → length (kinds_in row) ≡ columns → 0 < columns → HasKey row
has_key_by columns [] same some = let none : 0 ≡ columns = same in absurd (omega arith)
has_key_by columns (value ∷ row) same some = (value, refl)

rows_have_keys : Laws → (table : TableDef) → 0 < length table.columns → (rows : List (List cell.Value)) → All (λ row. IsTrue (fits_table table row)) rows
    → All HasKey rows
rows_have_keys laws table some rows fit =
    All-weaker (λ row. IsTrue (fits_table table row)) HasKey
    (λ row fits. has_key_by (length table.columns) row
    (ap length ((laws.fits table row).0 fits) ∙ length_map (λ column. column.kind) table.columns) some)
    rows fit

pub rows_with_more : Laws → (table : TableDef) (commits : ℕ) (rows : List DimensionRow) (more : List (List cell.Value)) → 0 < length table.columns
    → AreRowsOf table commits rows → All (λ row. IsTrue (fits_table table row)) more → length rows + length more ≤ MAX_DIMENSION_ROWS
    → AllPairs HaveOtherKeys more → All (IsNewIn rows) more → AreRowsOf table (commits + 1) (rows ++ rows_by (commits + 1) more)
rows_with_more laws table commits rows more some are fit room apart new =
    let new_rows = rows_by (commits + 1) more in
    let count : length (rows ++ new_rows) ≡ length rows + length more =
    length-append rows new_rows ∙ ap (λ n. length rows + n) (length_map (entry_by (commits + 1)) more) in record {
      few = rw count room;
      keyed = keyed_with_more laws (commits + 1) rows more are.keyed (rows_have_keys laws table some more fit) new apart;
      fit = All-append (λ entry. IsTrue (fits_table table entry.row)) rows new_rows are.fit
          (All-map (λ entry. IsTrue (fits_table table entry.row)) (entry_by (commits + 1)) more fit);
      loaded = All-append (IsLoaded (commits + 1)) rows new_rows
          (All-weaker (IsLoaded commits) (IsLoaded (commits + 1)) (one_later commits) rows are.loaded) (new_loaded commits more);
    }

-- the rows of any dimension are loaded by commits so far
pub loaded_in : (tables : List TableDef) (dimensions : List (List DimensionRow)) (commits : ℕ) → length dimensions ≡ length tables
    → ((dimension : ℕ) → IfSome (slice_get tables dimension) (λ table. AreRowsOf table commits (rows_in dimensions dimension)))
    → (dimension : ℕ) → All (IsLoaded commits) (rows_in dimensions dimension)
loaded_in [] [] commits count rows dimension = All-nil (IsLoaded commits)
loaded_in [] (first ∷ dimensions) commits count rows dimension = absurd (omega arith)
loaded_in (table ∷ tables) [] commits count rows dimension = absurd (omega arith)
loaded_in (table ∷ tables) (first ∷ dimensions) commits count rows zero = let are : AreRowsOf table commits first = rows 0 in are.loaded
loaded_in (table ∷ tables) (first ∷ dimensions) commits count rows (suc dimension) =
    loaded_in tables dimensions commits (omega arith) (λ d. rows (suc d)) dimension

no_keys : AreKeyed []
no_keys = record { each = λ place low. absurd (omega arith); once = λ key i j first second. cc }

keyed_by : (tables : List TableDef) (dimensions : List (List DimensionRow)) (commits : ℕ) → length dimensions ≡ length tables
    → ((dimension : ℕ) → IfSome (slice_get tables dimension) (λ table. AreRowsOf table commits (rows_in dimensions dimension)))
    → (dimension : ℕ) → AreKeyed (rows_in dimensions dimension)
keyed_by [] [] commits count rows dimension = no_keys
keyed_by [] (first ∷ dimensions) commits count rows dimension = absurd (omega arith)
keyed_by (table ∷ tables) [] commits count rows dimension = absurd (omega arith)
keyed_by (table ∷ tables) (first ∷ dimensions) commits count rows zero = let are : AreRowsOf table commits first = rows 0 in are.keyed
keyed_by (table ∷ tables) (first ∷ dimensions) commits count rows (suc dimension) =
    keyed_by tables dimensions commits (omega arith) (λ d. rows (suc d)) dimension

-- the rows of any dimension are keyed
pub keyed_in : (store : Store) → IsSettled store → (dimension : ℕ) → AreKeyed (rows_in store.dimensions dimension)
keyed_in store settled dimension = keyed_by store.schema.dimensions store.dimensions store.commits settled.count settled.rows dimension

-- a dimension without rows is declared behind the others
pub rows_declared : (table : TableDef) (tables : List TableDef) (dimensions : List (List DimensionRow)) (commits : ℕ) → length dimensions ≡ length tables
    → ((dimension : ℕ) → IfSome (slice_get tables dimension) (λ t. AreRowsOf t commits (rows_in dimensions dimension)))
    → (dimension : ℕ) → IfSome (slice_get (tables ++ table ∷ []) dimension) (λ t. AreRowsOf t commits (rows_in (dimensions ++ [] ∷ []) dimension))
rows_declared table [] [] commits count rows zero = record {
  few = omega arith;
  keyed = no_keys;
  fit = All-nil (λ (entry : DimensionRow). IsTrue (fits_table table entry.row));
  loaded = All-nil (IsLoaded commits);
}
rows_declared table [] [] commits count rows (suc dimension) = tt
rows_declared table [] (first ∷ dimensions) commits count rows dimension = absurd (omega arith)
rows_declared table (t ∷ tables) [] commits count rows dimension = absurd (omega arith)
rows_declared table (t ∷ tables) (first ∷ dimensions) commits count rows zero = rows 0
rows_declared table (t ∷ tables) (first ∷ dimensions) commits count rows (suc dimension) =
    rows_declared table tables dimensions commits (omega arith) (λ d. rows (suc d)) dimension
