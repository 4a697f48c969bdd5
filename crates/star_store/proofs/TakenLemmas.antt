-- A change that a load or a delete makes is one that the tables take.
use Rattle.std.proofs.Common.{◌≡◌, ◌≢◌, ℕ, ◌+◌, ◌<◌, ◌≤◌, Bool, true, false, cond, ◌&&◌, ◌==◌, nat_lt, List, [], length, get_or, Option, Some, None, is_some, option_map, Result, Ok, Err, slice_get, refl, ap, sym, subst, ◌∙◌, arith}
use Rattle.std.specs.Prelude.{IfSome, IsSome, IsTrue, is_none}
use Rattle.std.specs.List.{All, AllPairs, list_any, position, range_with_len}
use Rattle.std.specs.Option.{option_map_or, option_or}
use Rattle.std.proofs.lemmas.Bool.Decides.{Decides-eqb, nat_tests}
use Rattle.std.proofs.lemmas.List.Elements.{All-filter, All-weaker, filter_passes}
use Rattle.std.proofs.lemmas.List.FromFn.{get_or-range_with_len, length-range_with_len}
use Rattle.std.proofs.lemmas.List.Kept.{AllPairs-filter}
use Rattle.std.proofs.lemmas.List.Quantifiers.{position-Some}
use Rattle.star_values.specs.declared.refusal.Refusal.{Refusal}
use Rattle.star_values.specs.declared.refusal.Refusal.TheVariants.{OutOfOrder, UnknownName, Limit, BadRecord, DuplicateKey, DanglingReference}
use Rattle.star_values.specs.declared.value.Kind.{Kind}
use Rattle.star_values.specs.declared.value.Kind.TheVariants as kind
use Rattle.star_values.specs.declared.value.Value as cell
use Rattle.star_plan.specs.declared.column_def.ColumnDef.{ColumnDef}
use Rattle.star_plan.specs.declared.schema.Schema.{Schema}
use Rattle.star_plan.specs.declared.table.Table.{Table}
use Rattle.star_plan.specs.declared.table.Table.TheVariants.{Fact, Dimension}
use Rattle.star_plan.specs.declared.table_def.TableDef.{TableDef}
use Rattle.star_plan.specs.Columns.{columns_of, fact_columns, kinds_of}
use Rattle.star_plan.specs.Row.{value_in}
use Rattle.star_plan.specs.Test.{Test}
use Rattle.star_plan.specs.Truth.{passes}
use Rattle.star_plan.specs.Declaration.{has_key_of, references}
use Rattle.star_plan.specs.Named.{dimension_named, has_name, table_named}
use Rattle.star_plan.specs.Schemas.{IsDeclared, ReferencesAKey}
use Rattle.dimension_rows.specs.declared.dimension_row.DimensionRow.{DimensionRow}
use Rattle.dimension_rows.specs.Keys.{index_of}
use Rattle.csv_load.specs.Records.{records_in}
use Rattle.csv_load.specs.Rows.{typed_rows}
use Rattle.query_meaning.specs.Accepted.{Accepts, AcceptsEnds, AcceptsFacts, AcceptsRows}
use Rattle.query_meaning.specs.Alone.{foreign_key}
use Rattle.query_meaning.specs.History.{Change, Ended, Loaded}
use Rattle.query_meaning.specs.Settled.{IsSettled}
use Rattle.query_meaning.specs.Store.{PlainVersion, Store, rows_in}
use Rattle.star_store.specs.Deletes.{delete_change, is_ended_by, positions_of}
use Rattle.star_store.specs.Loads.{count_in, dangles, dangles_at, load_change, loaded_records, loaded_rows, most_in, repeats_a_key}
use Rattle.star_store.proofs.KeyTestLemmas.{apart_unless_repeated, new_unless_repeated}
use Rattle.star_plan.proofs.ListLemmas.{All-none}
use Rattle.star_values.specs.Value.{kinds_in}
use Rattle.star_store.proofs.LoadLemmas.{FitsByKinds, fit_by_kinds, rows_have_keys}

-- what the laws of rows say
pub record Laws : Type 0 where
  pub fits : FitsByKinds
  pub kinds : (kinds : List Kind) (records : List (List (List ℕ))) (rows : List (List cell.Value))
      → typed_rows kinds records ≡ Some rows → All (λ row. kinds_in row ≡ kinds) rows
  pub count : (kinds : List Kind) (records : List (List (List ℕ))) (rows : List (List cell.Value))
      → typed_rows kinds records ≡ Some rows → length rows ≡ length records

-- Tests that passed.

-- where the first test fails and something is found, the change is what is made of it
chosen_by : {X : Type 0} (is : Bool) (first second : Refusal) (found : Option X) (f : X → Result Change Refusal) (change : Change)
    → cond {A = Result Change Refusal} is (Err first) (option_map_or f found (Err second)) ≡ Ok change
    → (is ≡ false) × (x : X) × (found ≡ Some x) × (f x ≡ Ok change)
chosen_by true first second found f change e = cc
chosen_by false first second None f change e = cc
chosen_by false first second (Some x) f change e = (refl, x, refl, e)

last_by : (is : Bool) (reason : Refusal) (found change : Change) → cond {A = Result Change Refusal} is (Err reason) (Ok found) ≡ Ok change
    → (is ≡ false) × (found ≡ change)
last_by true reason found change e = cc
last_by false reason found change e = (refl, cc)

some_by : {X : Type 0} (found : Option X) → is_none found ≡ false → is_some found ≡ true
some_by None is = cc
some_by (Some x) is = refl

none_by : {X : Type 0} (found : Option X) → is_some found ≡ false → found ≡ None
none_by None is = refl
none_by (Some x) is = cc

first_true : (a b : Bool) → (a && b) ≡ true → a ≡ true
first_true true b e = refl
first_true false b e = cc

few_by : (most count more : ℕ) → nat_lt most (count + more) ≡ false → count + more ≤ most
few_by most count more room = grind (arith, nat_tests)

-- Foreign keys.

abbrev no_table : TableDef
no_table = record { name = []; columns = [] }

abbrev no_column : ColumnDef
no_column = record { name = []; kind = kind.Int; target = None }

target_by : (target : Option ℕ) (dimension : ℕ) → option_map_or (λ t. t == dimension) target false ≡ true → target ≡ Some dimension
target_by None dimension is = cc
target_by (Some t) dimension is = ap Some ((Decides-eqb t dimension).0 is)

-- a dimension that a column references is declared
declared_target : (schema : Schema) (dimension place : ℕ) → IsDeclared schema → position (references dimension) (fact_columns schema) ≡ Some place
    → dimension < length schema.dimensions
declared_target schema dimension place declared found =
    let at = position-Some (references dimension) (fact_columns schema) place no_column found in
    let column = get_or (fact_columns schema) place no_column in
    let references_key : ReferencesAKey schema column = declared.references place no_column at.0 in
    let target = target_by column.target dimension at.1 in
    (subst (λ (t : Option ℕ). IfSome t (λ d. (d < length schema.dimensions) × IsTrue (has_key_of schema column.kind d))) target references_key).0

matched_by : (rows : List DimensionRow) (found : Option cell.Value) → option_map_or (λ key. is_none (index_of rows key)) found false ≡ false
    → IfSome found (λ key. IsSome (index_of rows key))
matched_by rows None none = tt
matched_by rows (Some key) none = some_by (index_of rows key) none

dangles_nowhere : (schema : Schema) (dimensions : List (List DimensionRow)) (row : List cell.Value) (dimension : ℕ)
    → dangles schema dimensions row ≡ false → dimension < length schema.dimensions → dangles_at schema dimensions row dimension ≡ false
dangles_nowhere schema dimensions row dimension none low =
    let n = length schema.dimensions in
    let number : 0 + dimension ≡ dimension = omega arith in
    subst (λ d. dangles_at schema dimensions row d ≡ false) (get_or-range_with_len 0 n dimension 0 low ∙ number)
    (All-none (dangles_at schema dimensions row) (range_with_len 0 n) none dimension 0 (rw (length-range_with_len 0 n) low))

foreign_by : (schema : Schema) (dimensions : List (List DimensionRow)) (row : List cell.Value) (dimension : ℕ) (place : Option ℕ) → IsDeclared schema
    → position (references dimension) (fact_columns schema) ≡ place → dangles schema dimensions row ≡ false
    → IfSome (option_map (value_in row) place) (λ key. IsSome (index_of (rows_in dimensions dimension) key))
foreign_by schema dimensions row dimension None declared found none = tt
foreign_by schema dimensions row dimension (Some place) declared found none =
    let here : dangles_at schema dimensions row dimension ≡ false =
    dangles_nowhere schema dimensions row dimension none (declared_target schema dimension place declared found) in
    let there : option_map_or (λ key. is_none (index_of (rows_in dimensions dimension) key)) (option_map (value_in row) (Some place)) false ≡ false =
    subst (λ p. option_map_or (λ key. is_none (index_of (rows_in dimensions dimension) key)) (option_map (value_in row) p) false ≡ false) found here in
    matched_by (rows_in dimensions dimension) (Some (value_in row place)) there

rows_matched : (schema : Schema) (dimensions : List (List DimensionRow)) (rows : List (List cell.Value)) → IsDeclared schema
    → list_any (dangles schema dimensions) rows ≡ false
    → All (λ row. (dimension : ℕ) → IfSome (foreign_key schema dimension row) (λ key. IsSome (index_of (rows_in dimensions dimension) key))) rows
rows_matched schema dimensions rows declared none =
    All-weaker (λ row. dangles schema dimensions row ≡ false)
    (λ row. (dimension : ℕ) → IfSome (foreign_key schema dimension row) (λ key. IsSome (index_of (rows_in dimensions dimension) key)))
    (λ row is dimension. foreign_by schema dimensions row dimension _ declared refl is) rows (All-none (dangles schema dimensions) rows none)

-- A load.

room_by : (most count : ℕ) (rows : List (List cell.Value)) (records : ℕ) → length rows ≡ records → nat_lt most (count + records) ≡ false
    → count + length rows ≤ most
room_by most count rows records same room = rw same (few_by most count records room)

named_by : (number : Option ℕ) (is : Bool) (dimension : ℕ)
    → option_or (option_map Dimension number) (cond {A = Option Table} is (Some Fact) None) ≡ Some (Dimension dimension) → number ≡ Some dimension
named_by (Some n) is dimension e = cc
named_by None true dimension e = cc
named_by None false dimension e = cc

number_low : (schema : Schema) (name : List ℕ) (dimension : ℕ) → dimension_named schema name ≡ Some dimension → dimension < length schema.dimensions
number_low schema name dimension found = (position-Some (has_name name) schema.dimensions dimension no_table found).0

facts_taken : Laws → (store : Store) (records : List (List (List ℕ))) (change : Change) → IsSettled store → is_none store.schema.fact ≡ false
    → loaded_records store Fact records ≡ Ok change → Accepts store change
facts_taken laws store records change settled ready e =
    let kinds = kinds_of (columns_of store.schema Fact) in
    let found = chosen_by (nat_lt (most_in Fact) (count_in store Fact + length records)) Limit BadRecord (typed_rows kinds records) (loaded_rows store Fact) change e in
    let rows = found.1 in
    let last = last_by (list_any (dangles store.schema store.dimensions) rows) DanglingReference (Loaded Fact rows) change found.3 in
    let accepts : AcceptsFacts store rows = record {
      ready = some_by store.schema.fact ready;
      fit = fit_by_kinds laws.fits store.schema.fact rows (laws.kinds kinds records rows found.2);
      room = room_by (most_in Fact) (count_in store Fact) rows (length records) (laws.count kinds records rows found.2) found.0;
      matched = rows_matched store.schema store.dimensions rows settled.declared last.0;
    } in
    subst (Accepts store) last.1 accepts

rows_taken : Laws → (store : Store) (dimension : ℕ) (records : List (List (List ℕ))) (change : Change) → IsSettled store → is_none store.schema.fact ≡ false
    → dimension < length store.schema.dimensions → loaded_records store (Dimension dimension) records ≡ Ok change → Accepts store change
rows_taken laws store dimension records change settled ready low e =
    let kinds = kinds_of (columns_of store.schema (Dimension dimension)) in
    let old = rows_in store.dimensions dimension in
    let found = chosen_by (nat_lt (most_in (Dimension dimension)) (count_in store (Dimension dimension) + length records)) Limit BadRecord
    (typed_rows kinds records) (loaded_rows store (Dimension dimension)) change e in
    let rows = found.1 in
    let last = last_by (repeats_a_key old rows) DuplicateKey (Loaded (Dimension dimension) rows) change found.3 in
    let fit = laws.kinds kinds records rows found.2 in
    let accepts : AcceptsRows store dimension rows = record {
      ready = some_by store.schema.fact ready;
      there = low;
      fit = fit_by_kinds laws.fits (slice_get store.schema.dimensions dimension) rows fit;
      room = room_by (most_in (Dimension dimension)) (length old) rows (length records) (laws.count kinds records rows found.2) found.0;
      apart = apart_unless_repeated old rows (rows_have_keys store.schema dimension rows settled.declared low fit) last.0;
      new_keys = new_unless_repeated old rows last.0;
    } in
    subst (Accepts store) last.1 accepts

table_taken : Laws → (store : Store) (name : List ℕ) (records : List (List (List ℕ))) (change : Change) (table : Table) → IsSettled store
    → is_none store.schema.fact ≡ false → table_named store.schema name ≡ Some table → loaded_records store table records ≡ Ok change → Accepts store change
table_taken laws store name records change Fact settled ready named e = facts_taken laws store records change settled ready e
table_taken laws store name records change (Dimension dimension) settled ready named e =
    let number = named_by (dimension_named store.schema name) (option_map_or (has_name name) store.schema.fact false) dimension named in
    let low : dimension < length store.schema.dimensions = number_low store.schema name dimension number in
    rows_taken laws store dimension records change settled ready low e

pub load_taken : Laws → (store : Store) (name : List ℕ) (header : Bool) (block : List ℕ) (change : Change) → IsSettled store
    → load_change store name header block ≡ Ok change → Accepts store change
unfolding load_change
load_taken laws store name header block change settled e =
    let found = chosen_by (is_none store.schema.fact) OutOfOrder UnknownName (table_named store.schema name)
    (λ table. loaded_records store table (records_in header block)) change e in
    table_taken laws store name (records_in header block) change found.1 settled found.0 found.2 found.3

-- A delete.

numbers_apart : (n : ℕ) → AllPairs ◌≢◌ (range_with_len 0 n)
numbers_apart n = λ i j d before within same.
    let count : length (range_with_len 0 n) ≡ n = length-range_with_len 0 n in
    let first : get_or (range_with_len 0 n) i d ≡ 0 + i = get_or-range_with_len 0 n i d (omega arith) in
    let second : get_or (range_with_len 0 n) j d ≡ 0 + j = get_or-range_with_len 0 n j d (omega arith) in
    let both : 0 + i ≡ 0 + j = sym first ∙ same ∙ second in absurd (omega arith)

below_by : (n : ℕ) → All (λ number. number < n) (range_with_len 0 n)
below_by n = λ k d low.
    let count : length (range_with_len 0 n) ≡ n = length-range_with_len 0 n in
    let is : get_or (range_with_len 0 n) k d ≡ 0 + k = get_or-range_with_len 0 n k d (omega arith) in rw is (omega arith)

live_by : (condition : Option Test) (found : Option PlainVersion) → option_map_or (is_ended_by condition) found false ≡ true
    → IfSome found (λ version. version.end ≡ 0)
live_by condition None is = cc
live_by condition (Some version) is = (Decides-eqb version.end 0).0 (first_true (version.end == 0) (passes condition version.row) is)

pub delete_taken : (store : Store) (condition : Option Test) (change : Change) → delete_change store condition ≡ Ok change → Accepts store change
delete_taken store condition change e =
    let last = last_by (is_none store.schema.fact) OutOfOrder (Ended (positions_of condition store.versions)) change e in
    let n = length store.versions in
    let p : ℕ → Bool = λ position. option_map_or (is_ended_by condition) (slice_get store.versions position) false in
    let accepts : AcceptsEnds store (positions_of condition store.versions) = record {
      ready = some_by store.schema.fact last.0;
      there = All-filter p (λ position. position < n) (range_with_len 0 n) (below_by n);
      live = All-weaker (λ position. p position ≡ true) (λ position. IfSome (slice_get store.versions position) (λ version. version.end ≡ 0))
          (λ position is. live_by condition (slice_get store.versions position) is) (positions_of condition store.versions)
          (filter_passes p (range_with_len 0 n));
      apart = AllPairs-filter ◌≢◌ p (range_with_len 0 n) (numbers_apart n);
    } in
    subst (Accepts store) last.1 accepts
