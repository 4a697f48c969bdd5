-- Where the columns of a statement stand: each is looked for in some tables of a schema.
use Rattle.std.specs.Prelude.{ℕ, Bool, true, false, not, ◌&&◌, nat_lt, List, find, filter_map, count_by, is_some, is_none}
use Rattle.std.specs.List.{list_any}
use Rattle.std.specs.Option.{option_map_or}
use Rattle.star_parser.specs.declared.tree.Column.{Column}
use Rattle.star_plan.specs.declared.place.Place.{Place}
use Rattle.star_plan.specs.declared.place.Place.TheVariants as place
use Rattle.star_plan.specs.declared.schema.Schema.{Schema}
use Rattle.star_plan.specs.Columns.{columns_of, definition_of}
use Rattle.star_plan.specs.Named.{table_named, column_named, has_name}
use Rattle.star_plan.specs.declared.table.Table.{Table}
use Rattle.star_plan.specs.declared.table.Table.TheVariants.{Fact, Dimension}
use Rattle.star_binder.specs.Scope.{TablesInScope}

-- the tables of these names; a name of no table is left out
abbrev pub tables_named : Schema → List (List ℕ) → List Table
tables_named schema names = filter_map (table_named schema) names

-- the place of a column of a table
abbrev pub place_in : Table → ℕ → Place
place_in Fact column = place.Fact column
place_in (Dimension dimension) column = place.Dimension dimension column

-- the table of a place
abbrev pub table_at : Place → Table
table_at (place.Fact column) = Fact
table_at (place.Dimension dimension column) = Dimension dimension

-- the number of its column
abbrev pub number_at : Place → ℕ
number_at (place.Fact column) = column
number_at (place.Dimension dimension column) = column

-- whether this is the name of a table
abbrev pub is_name_of : Schema → Table → List ℕ → Bool
is_name_of schema table name = option_map_or (has_name name) (definition_of schema table) false

-- whether a column stands in a table: it has the table's name, or none, and the table
-- has a column of its name
abbrev pub stands_in : Schema → Column → Table → Bool
stands_in schema column table =
    option_map_or (is_name_of schema table) column.table true
    && is_some (column_named (columns_of schema table) column.name)

-- whether a column stands in none of these tables
abbrev pub is_unknown : TablesInScope → Column → Bool
is_unknown scope column = not (list_any (stands_in scope.schema column) scope.tables)

-- whether a column without a table's name stands in two of these tables
abbrev pub is_ambiguous : TablesInScope → Column → Bool
is_ambiguous scope column =
    is_none column.table && nat_lt 1 (count_by (stands_in scope.schema column) scope.tables)

-- the place of a column in a table in which it stands
abbrev pub place_within : Schema → Column → Table → Place
place_within schema column table =
    place_in table
    (option_map_or (λ number. number) (column_named (columns_of schema table) column.name) 0)

-- the place of a column: in the first of these tables in which it stands. A bound
-- statement has no other column
abbrev pub place_of : TablesInScope → Column → Place
place_of scope column =
    option_map_or (place_within scope.schema column)
    (find (stands_in scope.schema column) scope.tables) (place.Fact 0)

-- the table of that place
abbrev pub table_of : TablesInScope → Column → Table
table_of scope column = table_at (place_of scope column)
