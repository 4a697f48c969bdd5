-- What accepted declarations keep.
use Rattle.std.proofs.Common.{◌≡◌, ◌↔◌, ℕ, length-append, ◌+◌, ◌<◌, ◌≤◌, Bool, true, false, cond, not, ◌||◌, ◌==◌, nat_lt, nat_le, List, [], ◌∷◌, ◌++◌, length, get_or, map, Option, Some, None, is_some, Result, Ok, Err, refl, ap, sym, ◌∙◌, subst, arith}
use Rattle.std.specs.Prelude.{◌≢◌, IfSome, IsTrue, bytes_eq, option_map, option_to_list}
use Rattle.std.specs.List.{All, AllPairs, count_by, list_any, position, range_with_len}
use Rattle.std.specs.Option.{option_map_or, option_or}
use Rattle.std.proofs.lemmas.Bool.Decides.{nat_tests, Decides-eqb}
use Rattle.std.proofs.lemmas.List.{append-nil}
use Rattle.std.proofs.lemmas.List.Elements.{All-nil, All-append, All-push}
use Rattle.std.proofs.lemmas.List.FromFn.{get_or-range_with_len, length-range_with_len}
use Rattle.std.proofs.lemmas.List.Quantifiers.{all_pairs_push}
use Rattle.std.proofs.lemmas.Slice.Eq.{bytes_eq-Decides}
use Rattle.star_values.specs.declared.refusal.Refusal.{Refusal}
use Rattle.star_values.specs.declared.value.Kind.{Kind}
use Rattle.star_values.specs.declared.refusal.Refusal.TheVariants.{OutOfOrder, DuplicateName, UnknownName, Limit, TypeMismatch}
use Rattle.star_plan.specs.Columns.{fact_columns}
use Rattle.star_plan.specs.declared.column_def.ColumnDef.{ColumnDef}
use Rattle.star_plan.specs.declared.schema.Schema.{Schema}
use Rattle.star_plan.specs.declared.table.Table.{Table}
use Rattle.star_plan.specs.declared.table.Table.TheVariants.{Dimension}
use Rattle.star_plan.specs.declared.table_def.TableDef.{TableDef}
use Rattle.star_values.specs.declared.column_lists.TheConstants.{MAX_COLUMNS}
use Rattle.star_plan.specs.declared.TheConstants.{MAX_DIMENSIONS}
use Rattle.star_plan.specs.Declaration.{declared_dimension, declared_fact, has_key_of, is_referenced_twice, references, references_another_kind, references_nothing, references_twice, same_name, takes_a_name_twice}
use Rattle.star_plan.specs.Limits.{HasFewColumns, IsWithinLimits, with_dimension, with_fact}
use Rattle.star_plan.specs.Named.{dimension_named, fact_named, has_name, table_named}
use Rattle.star_plan.specs.Repeats.{repeats}
use Rattle.star_plan.specs.Schemas.{HasColumns, IsDeclared, ReferenceApart, ReferencesAKey, ReferencesNothing, tables_of}
use Rattle.star_plan.proofs.ListLemmas.{All-none, All-nowhere, AllPairs-from_count, neither}
use Rattle.star_plan.proofs.RepeatLemmas.{repeats-pairs}

-- what the tests of an accepted dimension found
record AcceptsDimension (schema : Schema) (table : TableDef) : Type 0 where
  first : is_some schema.fact ≡ false
  names : takes_a_name_twice schema table ≡ false
  few : (nat_le MAX_DIMENSIONS (length schema.dimensions) || nat_lt MAX_COLUMNS (length table.columns)) ≡ false

dimension_by : (a b c : Bool) (table other : TableDef)
    → cond {A = Result TableDef Refusal} a (Err OutOfOrder) (cond b (Err DuplicateName) (cond c (Err Limit) (Ok table))) ≡ Ok other
    → (a ≡ false) × (b ≡ false) × (c ≡ false) × (table ≡ other)
dimension_by true b c table other e = cc
dimension_by false true c table other e = cc
dimension_by false false true table other e = cc
dimension_by false false false table other e = (refl, refl, refl, cc)

accepts_dimension : (schema : Schema) (table other : TableDef) → declared_dimension schema table ≡ Ok other → AcceptsDimension schema table × (table ≡ other)
accepts_dimension schema table other e =
    let tests = dimension_by (is_some schema.fact) (takes_a_name_twice schema table)
    (nat_le MAX_DIMENSIONS (length schema.dimensions) || nat_lt MAX_COLUMNS (length table.columns)) table other e in
    (record { first = tests.0; names = tests.1; few = tests.2 }, tests.3)

-- what the tests of an accepted fact table found
record AcceptsFact (schema : Schema) (table : TableDef) : Type 0 where
  first : is_some schema.fact ≡ false
  names : takes_a_name_twice schema table ≡ false
  apart : references_twice schema table.columns ≡ false
  known : list_any (references_nothing schema) table.columns ≡ false
  few : nat_lt MAX_COLUMNS (length table.columns) ≡ false
  kinds : list_any (references_another_kind schema) table.columns ≡ false

fact_by : (a b c d e : Bool) (table other : TableDef)
    → cond {A = Result TableDef Refusal} a (Err OutOfOrder) (cond b (Err DuplicateName) (cond c (Err UnknownName) (cond d (Err Limit) (cond e (Err TypeMismatch) (Ok table))))) ≡ Ok other
    → (a ≡ false) × (b ≡ false) × (c ≡ false) × (d ≡ false) × (e ≡ false) × (table ≡ other)
fact_by true b c d e table other h = cc
fact_by false true c d e table other h = cc
fact_by false false true d e table other h = cc
fact_by false false false true e table other h = cc
fact_by false false false false true table other h = cc
fact_by false false false false false table other h = (refl, refl, refl, refl, refl, cc)

accepts_fact : (schema : Schema) (table other : TableDef) → declared_fact schema table ≡ Ok other → AcceptsFact schema table × (table ≡ other)
accepts_fact schema table other e =
    let tests = fact_by (is_some schema.fact) (takes_a_name_twice schema table || references_twice schema table.columns)
    (list_any (references_nothing schema) table.columns) (nat_lt MAX_COLUMNS (length table.columns))
    (list_any (references_another_kind schema) table.columns) table other e in
    let names = neither (takes_a_name_twice schema table) (references_twice schema table.columns) tests.1 in
    (record { first = tests.0; names = names.0; apart = names.1; known = tests.2; few = tests.3; kinds = tests.4 }, tests.5)

few_by : (most count : ℕ) → nat_lt most count ≡ false → count ≤ most
few_by most count e = grind (arith, nat_tests)

not_full : (most count : ℕ) → nat_le most count ≡ false → count < most
not_full most count e = grind (arith, nat_tests)

no_fact : {A : Type 0} (fact : Option A) → is_some fact ≡ false → fact ≡ None
no_fact None e = refl
no_fact (Some table) e = cc

unnamed_by : (first : Option Table) (second : Option Table) → is_some (option_or first second) ≡ false → is_some first ≡ false
unnamed_by None second e = refl
unnamed_by (Some table) second e = cc

no_dimension : (found : Option ℕ) → is_some (option_map Dimension found) ≡ false → is_some found ≡ false
no_dimension None e = refl
no_dimension (Some number) e = cc

-- the name of a new table is that of no dimension
new_name : (schema : Schema) (table : TableDef) → takes_a_name_twice schema table ≡ false
    → (k : ℕ) (d : TableDef) → k < length schema.dimensions → (get_or schema.dimensions k d).name ≢ table.name
new_name schema table e k d low same =
    let free = (neither (is_some (table_named schema table.name)) (repeats same_name table.columns) e).0 in
    let unnamed = no_dimension (dimension_named schema table.name)
    (unnamed_by (option_map Dimension (dimension_named schema table.name)) (fact_named schema table.name) free) in
    let other = All-nowhere (has_name table.name) schema.dimensions unnamed k d low in
    let tied = (bytes_eq-Decides (get_or schema.dimensions k d).name table.name).1 same in
    let wrong : true ≡ false = sym tied ∙ other in (cc)

-- the names of the columns of a new table differ
new_columns : (schema : Schema) (table : TableDef) → takes_a_name_twice schema table ≡ false → 0 < length table.columns → HasColumns table
new_columns schema table e some =
    let names = (neither (is_some (table_named schema table.name)) (repeats same_name table.columns) e).1 in
    record { some_column = some; names = (repeats-pairs table.columns).0 names }

-- before the fact table was declared, the tables are the dimensions
tables_before : (dimensions : List TableDef) (fact : Option TableDef) → fact ≡ None → dimensions ++ option_to_list fact ≡ dimensions
tables_before dimensions fact e = ap (λ f. dimensions ++ option_to_list f) e ∙ append-nil dimensions

abbrev columns_in : Option TableDef → List ColumnDef
columns_in fact = option_map_or (λ table. table.columns) fact []

columns_before : (fact : Option TableDef) → fact ≡ None → columns_in fact ≡ []
columns_before fact e = ap columns_in e

without_columns : (R : ColumnDef → ColumnDef → Type 0) (columns : List ColumnDef) → columns ≡ [] → AllPairs R columns
without_columns R columns e i j d lt low = let none = ap length e in absurd (omega arith)

no_columns : (P : ColumnDef → Type 0) (columns : List ColumnDef) → columns ≡ [] → All P columns
no_columns P columns e k d low = let none = ap length e in absurd (omega arith)

few_columns_before : (fact : Option TableDef) → fact ≡ None → IfSome fact HasFewColumns
few_columns_before None e = tt
few_columns_before (Some table) e = cc

kept_with_dimension : (schema : Schema) (table : TableDef) → IsDeclared schema → AcceptsDimension schema table → 0 < length table.columns → ReferencesNothing table
    → IsDeclared (with_dimension schema table)
kept_with_dimension schema table h tests some plain =
    let none : schema.fact ≡ None = no_fact schema.fact tests.first in
    let few = neither (nat_le MAX_DIMENSIONS (length schema.dimensions)) (nat_lt MAX_COLUMNS (length table.columns)) tests.few in
    let room = not_full MAX_DIMENSIONS (length schema.dimensions) few.0 in
    let before = tables_before schema.dimensions schema.fact none in
    let behind = tables_before (schema.dimensions ++ table ∷ []) schema.fact none in
    record {
      limits = record {
        dimensions = let more = length-append schema.dimensions (table ∷ []) in omega arith;
        columns = All-push HasFewColumns schema.dimensions table h.limits.columns (few_by MAX_COLUMNS (length table.columns) few.1);
        fact = few_columns_before schema.fact none;
      };
      columns =
          subst (All HasColumns) (sym behind)
          (All-push HasColumns schema.dimensions table (subst (All HasColumns) before h.columns) (new_columns schema table tests.names some));
      names =
          subst (AllPairs (λ one another. one.name ≢ another.name)) (sym behind)
          (all_pairs_push (λ one another. one.name ≢ another.name) schema.dimensions table
          (subst (AllPairs (λ one another. one.name ≢ another.name)) before h.names) (new_name schema table tests.names));
      dimensions = All-push ReferencesNothing schema.dimensions table h.dimensions plain;
      references = no_columns (ReferencesAKey (with_dimension schema table)) (columns_in schema.fact) (columns_before schema.fact none);
      apart = without_columns ReferenceApart (columns_in schema.fact) (columns_before schema.fact none);
    }

-- a schema stays what accepted declarations give with a dimension more
pub declared_with_dimension : (schema : Schema) (table other : TableDef) → IsDeclared schema → declared_dimension schema table ≡ Ok other
    → 0 < length table.columns → ReferencesNothing table → IsDeclared (with_dimension schema other)
declared_with_dimension schema table other h e some plain =
    let accepted = accepts_dimension schema table other e in
    subst (λ (grown : TableDef). IsDeclared (with_dimension schema grown)) accepted.1 (kept_with_dimension schema table h accepted.0 some plain)

not_not : (b : Bool) → not b ≡ false → b ≡ true
not_not true e = refl
not_not false e = cc

target_by : (schema : Schema) (kind : Kind) (target : Option ℕ)
    → option_map_or (λ found. nat_le (length schema.dimensions) found) target false ≡ false
    → option_map_or (λ found. not (has_key_of schema kind found)) target false ≡ false
    → IfSome target (λ dimension. (dimension < length schema.dimensions) × IsTrue (has_key_of schema kind dimension))
target_by schema kind None known same = tt
target_by schema kind (Some dimension) known same = (not_full (length schema.dimensions) dimension known, not_not (has_key_of schema kind dimension) same)

-- two columns that reference one dimension are counted
counted : (dimension : ℕ) (column : ColumnDef) → column.target ≡ Some dimension → references dimension column ≡ true
counted dimension column e = ap (λ target. option_map_or (λ found. found == dimension) target false) e ∙ (Decides-eqb dimension dimension).1 refl

declared_target : (count : ℕ) (Key : ℕ → Type 0) (target : Option ℕ) (dimension : ℕ) → IfSome target (λ found. (found < count) × Key found)
    → target ≡ Some dimension → dimension < count
declared_target count Key target dimension h e = (subst (λ t. IfSome t (λ found. (found < count) × Key found)) e h).0

few_references : (schema : Schema) (columns : List ColumnDef) (dimension : ℕ) → references_twice schema columns ≡ false → dimension < length schema.dimensions
    → count_by (references dimension) columns ≤ 1
few_references schema columns dimension e low =
    let count = length schema.dimensions in
    let len = length-range_with_len 0 count in
    let at : get_or (range_with_len 0 count) dimension 0 ≡ dimension = get_or-range_with_len 0 count dimension 0 low ∙ omega arith in
    let once : is_referenced_twice columns (get_or (range_with_len 0 count) dimension 0) ≡ false =
    All-none (is_referenced_twice columns) (range_with_len 0 count) e dimension 0 (omega arith) in
    few_by 1 (count_by (references dimension) columns) (subst (λ d. is_referenced_twice columns d ≡ false) at once)

references_apart : (schema : Schema) (columns : List ColumnDef) → references_twice schema columns ≡ false → All (ReferencesAKey schema) columns
    → AllPairs ReferenceApart columns
references_apart schema columns e keys i j d lt low dimension one other =
    let column = get_or columns i d in
    let declared = declared_target (length schema.dimensions) (λ found. IsTrue (has_key_of schema column.kind found)) column.target dimension
    (keys i d (omega arith)) one in
    let few = few_references schema columns dimension e declared in
    let apart = AllPairs-from_count (references dimension) columns few i j d lt low (counted dimension column one) in
    let wrong : true ≡ false = sym (counted dimension (get_or columns j d) other) ∙ apart in (cc)

kept_with_fact : (schema : Schema) (table : TableDef) → IsDeclared schema → AcceptsFact schema table → 0 < length table.columns → IsDeclared (with_fact schema table)
kept_with_fact schema table h tests some =
    let none : schema.fact ≡ None = no_fact schema.fact tests.first in
    let before = tables_before schema.dimensions schema.fact none in
    let references_keys : All (ReferencesAKey schema) table.columns = λ k d low.
    target_by schema (get_or table.columns k d).kind (get_or table.columns k d).target
    (All-none (references_nothing schema) table.columns tests.known k d low)
    (All-none (references_another_kind schema) table.columns tests.kinds k d low) in
    record {
      limits = record {
        dimensions = h.limits.dimensions;
        columns = h.limits.columns;
        fact = few_by MAX_COLUMNS (length table.columns) tests.few;
      };
      columns = All-push HasColumns schema.dimensions table (subst (All HasColumns) before h.columns) (new_columns schema table tests.names some);
      names =
          all_pairs_push (λ one another. one.name ≢ another.name) schema.dimensions table
          (subst (AllPairs (λ one another. one.name ≢ another.name)) before h.names) (new_name schema table tests.names);
      dimensions = h.dimensions;
      references = references_keys;
      apart = references_apart schema table.columns tests.apart references_keys;
    }

-- a schema stays what accepted declarations give with its fact table
pub declared_with_fact : (schema : Schema) (table other : TableDef) → IsDeclared schema → declared_fact schema table ≡ Ok other
    → 0 < length table.columns → IsDeclared (with_fact schema other)
declared_with_fact schema table other h e some =
    let accepted = accepts_fact schema table other e in
    subst (λ (grown : TableDef). IsDeclared (with_fact schema grown)) accepted.1 (kept_with_fact schema table h accepted.0 some)
