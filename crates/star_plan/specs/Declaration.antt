-- Which declarations are accepted over the tables of a schema, and why another is refused.
use Rattle.std.specs.Prelude.{ℕ, Bool, false, not, ◌||◌, ◌==◌, nat_lt, nat_le, List, length, count_by, slice_get, is_some, Result, Ok, Err, bytes_eq, if◌then◌else◌}
use Rattle.std.specs.List.{list_any, range_with_len}
use Rattle.std.specs.Option.{option_map_or}
use Rattle.star_values.specs.declared.value.Kind.{Kind}
use Rattle.star_values.specs.declared.refusal.Refusal.{Refusal}
use Rattle.star_values.specs.declared.refusal.Refusal.TheVariants.{OutOfOrder, DuplicateName, UnknownName, Limit, TypeMismatch}
use Rattle.star_plan.specs.Columns.{dimension_columns}
use Rattle.star_plan.specs.Fits.{same_kind}
use Rattle.star_plan.specs.declared.column_def.ColumnDef.{ColumnDef}
use Rattle.star_plan.specs.declared.schema.Schema.{Schema}
use Rattle.star_plan.specs.declared.table_def.TableDef.{TableDef}
use Rattle.star_values.specs.declared.column_lists.TheConstants.{MAX_COLUMNS}
use Rattle.star_plan.specs.declared.TheConstants.{MAX_DIMENSIONS}
use Rattle.star_plan.specs.Named.{table_named}
use Rattle.star_plan.specs.Repeats.{repeats}

-- whether two columns have one name
abbrev pub same_name : ColumnDef → ColumnDef → Bool
same_name column other = bytes_eq column.name other.name

-- whether the name of a declared table is taken, or two of its columns have one name
abbrev pub takes_a_name_twice : Schema → TableDef → Bool
takes_a_name_twice schema table =
    is_some (table_named schema table.name) || repeats same_name table.columns

-- whether a column references the dimension of this number
abbrev pub references : ℕ → ColumnDef → Bool
references dimension column = option_map_or (λ target. target == dimension) column.target false

-- whether more than one of these columns references the dimension of this number
abbrev pub is_referenced_twice : List ColumnDef → ℕ → Bool
is_referenced_twice columns dimension = nat_lt 1 (count_by (references dimension) columns)

-- whether two of these columns reference one declared dimension
abbrev pub references_twice : Schema → List ColumnDef → Bool
references_twice schema columns =
    list_any (is_referenced_twice columns) (range_with_len 0 (length schema.dimensions))

-- whether a column references what is no declared dimension
abbrev pub references_nothing : Schema → ColumnDef → Bool
references_nothing schema column =
    option_map_or (λ target. nat_le (length schema.dimensions) target) column.target false

-- whether the key of a dimension is of this kind; the first column is the key
abbrev pub has_key_of : Schema → Kind → ℕ → Bool
has_key_of schema kind dimension =
    option_map_or (λ key. same_kind kind key.kind)
    (slice_get (dimension_columns schema dimension) 0) false

-- whether a column references a key of another kind
abbrev pub references_another_kind : Schema → ColumnDef → Bool
references_another_kind schema column =
    option_map_or (λ target. not (has_key_of schema column.kind target)) column.target false

-- a dimension that is declared, or the first reason that refuses it
abbrev pub declared_dimension : Schema → TableDef → Result TableDef Refusal
declared_dimension schema table =
    if is_some schema.fact then Err OutOfOrder else
    if takes_a_name_twice schema table then Err DuplicateName else
    if nat_le MAX_DIMENSIONS (length schema.dimensions) || nat_lt MAX_COLUMNS (length table.columns)
    then Err Limit else
    Ok table

-- a fact table that is declared, or the first reason that refuses it
abbrev pub declared_fact : Schema → TableDef → Result TableDef Refusal
declared_fact schema table =
    if is_some schema.fact then Err OutOfOrder else
    if takes_a_name_twice schema table || references_twice schema table.columns
    then Err DuplicateName else
    if list_any (references_nothing schema) table.columns then Err UnknownName else
    if nat_lt MAX_COLUMNS (length table.columns) then Err Limit else
    if list_any (references_another_kind schema) table.columns then Err TypeMismatch else
    Ok table
