-- The checks of a load, and what an accepted load gives.
use Rattle.std.proofs.Common.{◌≡◌, ◌↔◌, ◌⊎◌, inl, inr, ℕ, zero, suc, ◌+◌, ◌<◌, ◌≤◌, Bool, true, false, nat_lt, List, [], ◌∷◌, ◌++◌, length, map, Option, Some, None, Result, Ok, Err, slice_get, refl, ap, sym, subst, ◌∙◌, arith}
use Rattle.std.specs.Prelude.{IfErr, IfOk, IfSome, IsSome, IsTrue, OnErr, OnOk, not, slice_index_or, slice_set}
use Rattle.std.specs.List.{All, list_any, refill}
use Rattle.std.specs.Option.{option_map_or}
use Rattle.std.proofs.lemmas.Bool.Decides.{nat_tests}
use Rattle.std.proofs.lemmas.List.{length-map, length-set}
use Rattle.std.proofs.lemmas.List.Elements.{All-cons, All-head, All-nil, All-tail, All-weaker}
use Rattle.star_values.specs.declared.refusal.Refusal.TheVariants.{DanglingReference, Limit}
use Rattle.star_values.specs.declared.value.Kind.{Kind}
use Rattle.star_values.specs.declared.value.Value as cell
use Rattle.star_plan.specs.declared.schema.Schema.{Schema}
use Rattle.star_plan.specs.declared.table.Table.{Table}
use Rattle.star_plan.specs.declared.table.Table.TheVariants.{Fact, Dimension}
use Rattle.star_plan.specs.declared.table_def.TableDef.{TableDef}
use Rattle.star_plan.specs.Columns.{columns_of, kinds_of}
use Rattle.star_plan.specs.Fits.{fits_table}
use Rattle.star_values.specs.Value.{kinds_in}
use Rattle.star_plan.specs.Schemas.{HasColumns, IsDeclared}
use Rattle.star_values.specs.Roomy.{Roomy}
use Rattle.fact_versions.specs.declared.version.TheConstants.{MAX_VERSIONS}
use Rattle.fact_versions.specs.declared.version.Version.{Version}
use Rattle.dimension_rows.specs.declared.dimension_row.TheConstants.{MAX_DIMENSION_ROWS}
use Rattle.dimension_rows.specs.declared.dimension_row.DimensionRow.{DimensionRow}
use Rattle.dimension_rows.specs.Keys.{key_of}
use Rattle.csv_load.specs.Rows.{typed_rows}
use Rattle.query_meaning.specs.History.{Loaded, grown_at, versions_by}
use Rattle.query_meaning.specs.Keyed.{plain_version}
use Rattle.query_meaning.specs.Store.{Store}
use Rattle.star_values.specs.declared.statement_fault.StatementFault.{StatementFault}
use Rattle.star_values.specs.declared.statement_fault.StatementFault.TheVariants.{Refused, Memory}
use Rattle.query_meaning.specs.KeptTables.{rows_of_all}
use Rattle.star_store.specs.Parts.{AreVersionsBy}
use Rattle.star_store.specs.Fault.{Tells}
use Rattle.star_store.specs.Loads.{count_in, dangles, loaded_records, loaded_rows, most_in}

-- Keys of rows.

all_front : {X : Type 0} (P : X → Type 0) (xs ys : List X) → All P (xs ++ ys) → All P xs
all_front P [] ys all = All-nil P
all_front P (x ∷ xs) ys all = All-cons P x xs (All-head P x (xs ++ ys) all) (all_front P xs ys (All-tail P x (xs ++ ys) all))

columns_at : (tables : List TableDef) (number : ℕ) → All HasColumns tables → number < length tables
    → (table : TableDef) × (slice_get tables number ≡ Some table) × (0 < length table.columns)
columns_at [] number all low = absurd (omega arith)
columns_at (table ∷ tables) zero all low = let has = All-head HasColumns table tables all in (table, refl, has.some_column)
columns_at (table ∷ tables) (suc number) all low = columns_at tables number (All-tail HasColumns table tables all) (omega arith)

some_column : (schema : Schema) (number : ℕ) → IsDeclared schema → number < length schema.dimensions
    → 0 < length (columns_of schema (Dimension number))
some_column schema number declared low =
    let found = columns_at schema.dimensions number (all_front HasColumns schema.dimensions _ declared.columns) low in rw found.1 found.2

key_by : (kinds : ℕ) (row : List cell.Value) → length (kinds_in row) ≡ kinds → 0 < kinds → IsSome (key_of row)
key_by kinds [] same some = let none : 0 ≡ kinds = same in absurd (omega arith)
key_by kinds (value ∷ row) same some = refl

-- each row whose values have the kinds of the columns of a dimension has a key
pub rows_have_keys : (schema : Schema) (number : ℕ) (rows : List (List cell.Value)) → IsDeclared schema → number < length schema.dimensions
    → All (λ row. kinds_in row ≡ kinds_of (columns_of schema (Dimension number))) rows → All (λ row. IsSome (key_of row)) rows
rows_have_keys schema number rows declared low kinds =
    let columns = columns_of schema (Dimension number) in
    All-weaker (λ row. kinds_in row ≡ kinds_of columns) (λ row. IsSome (key_of row))
    (λ row same. key_by (length columns) row (ap length same ∙ length-map columns (λ column. column.kind)) (some_column schema number declared low))
    rows kinds

-- rows that were read by kinds are rows by the kinds that those are
pub typed_by : (kinds wanted : List Kind) (records : List (List (List ℕ))) (rows : List (List cell.Value)) → kinds ≡ wanted
    → typed_rows kinds records ≡ Some rows → typed_rows wanted records ≡ Some rows
typed_by kinds wanted records rows same = subst (λ (k : List Kind). typed_rows k records ≡ Some rows) same

-- Rows of a dimension that grow in place.

refill_all : {X : Type 0} (old members : List X) → length members ≡ length old → refill (length old) old members ≡ members
refill_all [] [] same = refl
refill_all [] (member ∷ members) same = absurd (omega arith)
refill_all (x ∷ old) [] same = absurd (omega arith)
refill_all (x ∷ old) (member ∷ members) same = ap (λ rest. member ∷ rest) (refill_all old members (omega arith))

set_grown : (dims : List (Roomy DimensionRow)) (number : ℕ) (d new : Roomy DimensionRow) (more : List DimensionRow) → number < length dims
    → new.items ≡ (slice_index_or dims number d).items ++ more
    → rows_of_all (slice_set dims number new) ≡ grown_at number more (rows_of_all dims)
set_grown [] number d new more low grown = absurd (omega arith)
set_grown (dimension ∷ dims) zero d new more low grown = ap (λ (items : List DimensionRow). items ∷ rows_of_all dims) grown
set_grown (dimension ∷ dims) (suc number) d new more low grown =
    ap (λ (rest : List (List DimensionRow)). dimension.items ∷ rest) (set_grown dims number d new more (omega arith) grown)

set_same : (dims : List (Roomy DimensionRow)) (number : ℕ) (d new : Roomy DimensionRow) → number < length dims
    → new.items ≡ (slice_index_or dims number d).items → rows_of_all (slice_set dims number new) ≡ rows_of_all dims
set_same [] number d new low same = absurd (omega arith)
set_same (dimension ∷ dims) zero d new low same = ap (λ (items : List DimensionRow). items ∷ rows_of_all dims) same
set_same (dimension ∷ dims) (suc number) d new low same =
    ap (λ (rest : List (List DimensionRow)). dimension.items ∷ rest) (set_same dims number d new (omega arith) same)

-- what was lent ends as the members that were written
lent : (dims members : List (Roomy DimensionRow)) (number : ℕ) (new : Roomy DimensionRow) → members ≡ dims
    → rows_of_all (refill (length dims) dims (slice_set members number new)) ≡ rows_of_all (slice_set dims number new)
lent dims members number new same =
    ap (λ written. rows_of_all (refill (length dims) dims (slice_set written number new))) same
    ∙ ap rows_of_all (refill_all dims (slice_set dims number new) (length-set _ _ _))

pub lent_grown : (dims members : List (Roomy DimensionRow)) (number : ℕ) (d new : Roomy DimensionRow) (more : List DimensionRow) → members ≡ dims
    → number < length dims → new.items ≡ (slice_index_or members number d).items ++ more
    → rows_of_all (refill (length dims) dims (slice_set members number new)) ≡ grown_at number more (rows_of_all dims)
lent_grown dims members number d new more same low grown =
    lent dims members number new same
    ∙ set_grown dims number d new more low (subst (λ ms. new.items ≡ (slice_index_or ms number d).items ++ more) same grown)

pub lent_same : (dims members : List (Roomy DimensionRow)) (number : ℕ) (d new : Roomy DimensionRow) → members ≡ dims
    → number < length dims → new.items ≡ (slice_index_or members number d).items
    → rows_of_all (refill (length dims) dims (slice_set members number new)) ≡ rows_of_all dims
lent_same dims members number d new same low unchanged =
    lent dims members number new same
    ∙ set_same dims number d new low (subst (λ ms. new.items ≡ (slice_index_or ms number d).items) same unchanged)

pub on_err : {T E : Type 0} (P : Type 0) (result : Result T E) → P → OnErr result P
on_err P (Ok x) is = tt
on_err P (Err e) is = is

-- Versions of the fact table.

abbrev pub FitsByKinds : Type 0
FitsByKinds = (table : TableDef) (row : List cell.Value) → IsTrue (fits_table table row) ↔ (kinds_in row ≡ kinds_of table.columns)

pub fit_by_kinds : FitsByKinds → (fact : Option TableDef) (rows : List (List cell.Value))
    → All (λ row. kinds_in row ≡ kinds_of (option_map_or (λ table. table.columns) fact [])) rows
    → IfSome fact (λ table. All (λ row. IsTrue (fits_table table row)) rows)
fit_by_kinds law None rows kinds = tt
fit_by_kinds law (Some table) rows kinds =
    All-weaker (λ row. kinds_in row ≡ kinds_of table.columns) (λ row. IsTrue (fits_table table row)) (λ row same. (law table row).1 same) rows kinds

rows_of_new : (commit : ℕ) (rows : List (List cell.Value)) → map (λ version. version.row) (versions_by commit rows) ≡ rows
rows_of_new commit [] = refl
rows_of_new commit (row ∷ rows) = ap (λ rest. row ∷ rest) (rows_of_new commit rows)

rows_of_plain : (versions : List Version) → map (λ version. version.row) (map plain_version versions) ≡ map (λ version. version.row) versions
rows_of_plain [] = refl
rows_of_plain (version ∷ versions) = ap (λ rest. version.row ∷ rest) (rows_of_plain versions)

pub rows_of_versions : (versions : List Version) (commit : ℕ) (rows : List (List cell.Value)) → map plain_version versions ≡ versions_by commit rows
    → map (λ version. version.row) versions ≡ rows
rows_of_versions versions commit rows same =
    sym (rows_of_plain versions) ∙ ap (map (λ version. version.row)) same ∙ rows_of_new commit rows

found_versions : (store : Store) (records : List (List (List ℕ))) (rows : List (List cell.Value))
    → nat_lt (most_in Fact) (count_in store Fact + length records) ≡ false → typed_rows (kinds_of (columns_of store.schema Fact)) records ≡ Some rows
    → loaded_records store Fact records ≡ loaded_rows store Fact rows
found_versions store records rows room typed = rw (room, typed) refl

pub accepted_versions : {V : Type 0} (items : V → List Version) (result : Result V StatementFault) (store : Store) (records : List (List (List ℕ)))
    (rows : List (List cell.Value)) (commit : ℕ) → nat_lt (most_in Fact) (count_in store Fact + length records) ≡ false
    → typed_rows (kinds_of (columns_of store.schema Fact)) records ≡ Some rows
    → IfOk result (λ versions. AreVersionsBy store.schema store.dimensions commit rows (items versions))
    → OnOk result (list_any (dangles store.schema store.dimensions) rows ≡ false)
    → IfOk result (λ versions. loaded_records store Fact records ≡ Ok (Loaded Fact (map (λ version. version.row) (items versions))))
accepted_versions items (Ok versions) store records rows commit room typed made none =
    found_versions store records rows room typed ∙ rw none (ap (λ found. Ok (Loaded Fact found)) (sym (rows_of_versions (items versions) commit rows made.versions)))
accepted_versions items (Err fault) store records rows commit room typed made none = tt

pub versions_of_rows : {V : Type 0} (items : V → List Version) (result : Result V StatementFault) (schema : Schema)
    (dimensions : List (List DimensionRow)) (rows : List (List cell.Value)) (commit : ℕ)
    → IfOk result (λ versions. AreVersionsBy schema dimensions commit rows (items versions))
    → IfOk result (λ versions. AreVersionsBy schema dimensions commit (map (λ version. version.row) (items versions)) (items versions))
versions_of_rows items (Ok versions) schema dimensions rows commit made = record {
  versions = made.versions ∙ ap (versions_by commit) (sym (rows_of_versions (items versions) commit rows made.versions));
  keyed = made.keyed;
}
versions_of_rows items (Err fault) schema dimensions rows commit made = tt

few_by : (most count more : ℕ) → nat_lt most (count + more) ≡ false → count + more ≤ most
few_by most count more room = grind (arith, nat_tests)

pub few_versions : {V : Type 0} (items : V → List Version) (result : Result V StatementFault) (schema : Schema)
    (dimensions : List (List DimensionRow)) (rows : List (List cell.Value)) (commit most count records : ℕ)
    → length rows ≡ records → nat_lt most (count + records) ≡ false
    → IfOk result (λ versions. AreVersionsBy schema dimensions commit rows (items versions))
    → IfOk result (λ versions. count + length (items versions) ≤ most)
few_versions items (Ok versions) schema dimensions rows commit most count records all room made =
    let same : length (items versions) ≡ length rows =
    sym (length-map (items versions) (λ version. version.row)) ∙ ap length (rows_of_versions (items versions) commit rows made.versions) in
    let few = few_by most count records room in
    rw (same ∙ all) few
few_versions items (Err fault) schema dimensions rows commit most count records all room made = tt

dangling_fault : (store : Store) (records : List (List (List ℕ))) (rows : List (List cell.Value)) (fault : StatementFault)
    → nat_lt (most_in Fact) (count_in store Fact + length records) ≡ false → typed_rows (kinds_of (columns_of store.schema Fact)) records ≡ Some rows
    → (fault ≡ Memory) ⊎ ((fault ≡ Refused DanglingReference) × (list_any (dangles store.schema store.dimensions) rows ≡ true))
    → Tells (loaded_records store Fact records) fault
dangling_fault store records rows fault room typed (inl memory) = rw memory tt
dangling_fault store records rows fault room typed (inr dangling) =
    rw dangling.0 (found_versions store records rows room typed ∙ rw dangling.1 refl)

pub tells_dangling : {V : Type 0} (result : Result V StatementFault) (store : Store) (records : List (List (List ℕ))) (rows : List (List cell.Value))
    → nat_lt (most_in Fact) (count_in store Fact + length records) ≡ false → typed_rows (kinds_of (columns_of store.schema Fact)) records ≡ Some rows
    → IfErr result (λ fault. (fault ≡ Memory) ⊎ ((fault ≡ Refused DanglingReference) × (list_any (dangles store.schema store.dimensions) rows ≡ true)))
    → IfErr result (Tells (loaded_records store Fact records))
tells_dangling (Ok versions) store records rows room typed refused = tt
tells_dangling (Err fault) store records rows room typed refused = dangling_fault store records rows fault room typed refused

few_enough : (most count records : ℕ) → most < records → nat_lt most (count + records) ≡ true
few_enough most count records over = grind (arith, nat_tests)

-- more records than the fact table has room for are more than any table has
pub over_every_table : (store : Store) (table : Table) (records : List (List (List ℕ))) → MAX_VERSIONS < length records
    → loaded_records store table records ≡ Err Limit
over_every_table store Fact records over = rw (few_enough MAX_VERSIONS (count_in store Fact) (length records) over) refl
over_every_table store (Dimension dimension) records over =
    let over' : MAX_DIMENSION_ROWS < length records = omega arith in
    rw (few_enough MAX_DIMENSION_ROWS (count_in store (Dimension dimension)) (length records) over') refl

pub not_over : (over : Bool) → true ≡ not over → over ≡ false
not_over true is = cc
not_over false is = refl

pub length_plain : (versions : List Version) → length (map plain_version versions) ≡ length versions
length_plain versions = length-map versions plain_version
