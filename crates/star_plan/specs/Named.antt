-- The tables and columns of a schema, by their names.
use Rattle.std.specs.Prelude.{ℕ, Bool, false, List, position, Option, Some, None, option_map, bytes_eq, if◌then◌else◌}
use Rattle.std.specs.Option.{option_map_or, option_or}
use Rattle.star_plan.specs.declared.column_def.ColumnDef.{ColumnDef}
use Rattle.star_plan.specs.declared.schema.Schema.{Schema}
use Rattle.star_plan.specs.declared.table.Table.{Table}
use Rattle.star_plan.specs.declared.table.Table.TheVariants.{Fact, Dimension}
use Rattle.star_plan.specs.declared.table_def.TableDef.{TableDef}

-- whether a table was declared by this name
abbrev pub has_name : List ℕ → TableDef → Bool
has_name name table = bytes_eq table.name name

-- the number of the dimension of this name
abbrev pub dimension_named : Schema → List ℕ → Option ℕ
dimension_named schema name = position (has_name name) schema.dimensions

-- the fact table, where this is its name
abbrev pub fact_named : Schema → List ℕ → Option Table
fact_named schema name = if option_map_or (has_name name) schema.fact false then Some Fact else None

-- the table of this name
abbrev pub table_named : Schema → List ℕ → Option Table
table_named schema name =
    option_or (option_map Dimension (dimension_named schema name)) (fact_named schema name)

-- the number of the column of this name
abbrev pub column_named : List ColumnDef → List ℕ → Option ℕ
column_named columns name = position (λ column. bytes_eq column.name name) columns
