-- How large a schema is.
use Rattle.std.specs.Prelude.{ℕ, ◌≤◌, [], ◌∷◌, ◌++◌, length, All, IfSome, Some}
use Rattle.star_plan.specs.declared.schema.Schema.{Schema}
use Rattle.star_plan.specs.declared.table_def.TableDef.{TableDef}
use Rattle.star_values.specs.declared.column_lists.TheConstants.{MAX_COLUMNS}
use Rattle.star_plan.specs.declared.TheConstants.{MAX_DIMENSIONS}

-- a table has so few columns
abbrev pub HasFewColumns : TableDef → Type 0
HasFewColumns table = length table.columns ≤ MAX_COLUMNS

-- a schema has so few dimensions, and each of its tables so few columns
pub record IsWithinLimits (schema : Schema) : Type 0 where
  pub dimensions : length schema.dimensions ≤ MAX_DIMENSIONS
  pub columns : All HasFewColumns schema.dimensions
  pub fact : IfSome schema.fact HasFewColumns

-- a schema with one dimension more
abbrev pub with_dimension : Schema → TableDef → Schema
with_dimension schema table = record schema { dimensions = schema.dimensions ++ table ∷ [] }

-- a schema with its fact table
abbrev pub with_fact : Schema → TableDef → Schema
with_fact schema table = record schema { fact = Some table }
