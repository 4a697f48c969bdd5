-- The columns of the tables of a schema.
use Rattle.std.specs.Prelude.{ℕ, Bool, true, false, ◌==◌, List, [], map, slice_get, Option}
use Rattle.std.specs.Option.{option_map_or}
use Rattle.star_values.specs.declared.value.Kind.{Kind}
use Rattle.star_plan.specs.declared.column_def.ColumnDef.{ColumnDef}
use Rattle.star_plan.specs.declared.place.Place.{Place}
use Rattle.star_plan.specs.declared.place.Place.TheVariants as place
use Rattle.star_plan.specs.declared.schema.Schema.{Schema}
use Rattle.star_plan.specs.declared.table.Table.{Table}
use Rattle.star_plan.specs.declared.table.Table.TheVariants.{Fact, Dimension}
use Rattle.star_plan.specs.declared.table_def.TableDef.{TableDef}

-- whether two tables are the same
abbrev pub same_table : Table → Table → Bool
same_table Fact Fact = true
same_table Fact (Dimension e) = false
same_table (Dimension d) Fact = false
same_table (Dimension d) (Dimension e) = d == e

-- the declaration of a table
abbrev pub definition_of : Schema → Table → Option TableDef
definition_of schema Fact = schema.fact
definition_of schema (Dimension d) = slice_get schema.dimensions d

-- the columns of the fact table, and none before it was declared
abbrev pub fact_columns : Schema → List ColumnDef
fact_columns schema = option_map_or (λ table. table.columns) schema.fact []

-- the columns of a dimension, and none where there is no dimension of this number
abbrev pub dimension_columns : Schema → ℕ → List ColumnDef
dimension_columns schema dimension =
    option_map_or (λ table. table.columns) (slice_get schema.dimensions dimension) []

-- the columns of a table, and none where it is none of the schema
abbrev pub columns_of : Schema → Table → List ColumnDef
columns_of schema Fact = fact_columns schema
columns_of schema (Dimension d) = dimension_columns schema d

-- the kinds of columns
abbrev pub kinds_of : List ColumnDef → List Kind
kinds_of columns = map (λ column. column.kind) columns

-- the kind of the values at a place, where it is the place of a column
abbrev pub kind_at : Schema → Place → Option Kind
kind_at schema (place.Fact column) = slice_get (kinds_of (fact_columns schema)) column
kind_at schema (place.Dimension dimension column) =
    slice_get (kinds_of (dimension_columns schema dimension)) column
