-- The table that a declaration declares: each name of a dimension becomes its number.
use Rattle.std.specs.Prelude.{ℕ, Bool, true, false, List, [], map, Option, option_map, unwrap_or}
use Rattle.star_parser.specs.declared.ast.AstColumn.{AstColumn}
use Rattle.star_parser.specs.Statement.{Statement, Dimension, Fact}
use Rattle.star_plan.specs.declared.column_def.ColumnDef.{ColumnDef}
use Rattle.star_plan.specs.declared.schema.Schema.{Schema}
use Rattle.star_plan.specs.declared.table_def.TableDef.{TableDef}
use Rattle.star_plan.specs.Named.{dimension_named}

-- the number of a dimension by its name; 255 is that of none
abbrev pub number_of_dimension : Schema → List ℕ → ℕ
number_of_dimension schema name = unwrap_or (dimension_named schema name) 255

-- the dimension that a column references, if it references anything
abbrev pub target_of : Schema → AstColumn → Option ℕ
target_of schema column = option_map (number_of_dimension schema) column.references

-- a column of a table
abbrev pub defined_column : Schema → AstColumn → ColumnDef
defined_column schema column =
    record { name = column.name; kind = column.kind; target = target_of schema column }

-- a table of this name with these columns
abbrev pub table_with : Schema → List ℕ → List AstColumn → TableDef
table_with schema name columns =
    record { name = name; columns = map (defined_column schema) columns }

-- the table that a declaration declares; no other statement declares one
abbrev pub declared_table : Schema → Statement → TableDef
declared_table schema (Dimension name columns) = table_with schema name columns
declared_table schema (Fact name columns) = table_with schema name columns
declared_table schema other = table_with schema [] []

-- a declaration
abbrev pub is_declaration : Statement → Bool
is_declaration (Dimension name columns) = true
is_declaration (Fact name columns) = true
is_declaration other = false
