-- What holds of every schema that accepted declarations give.
use Rattle.std.specs.Prelude.{◌≡◌, ◌≢◌, ℕ, ◌<◌, List, ◌++◌, length, All, AllPairs, IfSome, IsTrue, None, Some, option_to_list}
use Rattle.star_plan.specs.Columns.{fact_columns}
use Rattle.star_plan.specs.declared.column_def.ColumnDef.{ColumnDef}
use Rattle.star_plan.specs.declared.schema.Schema.{Schema}
use Rattle.star_plan.specs.declared.table_def.TableDef.{TableDef}
use Rattle.star_plan.specs.Declaration.{has_key_of}
use Rattle.star_plan.specs.Limits.{IsWithinLimits}

-- the tables of a schema: its dimensions, and its fact table once it was declared
abbrev pub tables_of : Schema → List TableDef
tables_of schema = schema.dimensions ++ option_to_list schema.fact

-- a table has a column, and no two columns of one name
pub record HasColumns (table : TableDef) : Type 0 where
  pub some_column : 0 < length table.columns
  pub names : AllPairs (λ column other. column.name ≢ other.name) table.columns

-- no column of a table references a dimension
abbrev pub ReferencesNothing : TableDef → Type 0
ReferencesNothing table = All (λ column. column.target ≡ None) table.columns

-- what a column references, if anything, is a declared dimension whose key is of the column's kind
abbrev pub ReferencesAKey : Schema → ColumnDef → Type 0
ReferencesAKey schema column =
    IfSome column.target (λ dimension.
    (dimension < length schema.dimensions) × IsTrue (has_key_of schema column.kind dimension))

-- two columns do not reference one dimension
abbrev pub ReferenceApart : ColumnDef → ColumnDef → Type 0
ReferenceApart column other =
    (dimension : ℕ) → column.target ≡ Some dimension → other.target ≢ Some dimension

-- the schema is within its limits; each table has columns, of different names; tables have
-- different names; columns of dimensions reference nothing; and those of the fact table reference
-- keys of their kind, no two the same
pub record IsDeclared (schema : Schema) : Type 0 where
  pub limits : IsWithinLimits schema
  pub columns : All HasColumns (tables_of schema)
  pub names : AllPairs (λ table other. table.name ≢ other.name) (tables_of schema)
  pub dimensions : All ReferencesNothing schema.dimensions
  pub references : All (ReferencesAKey schema) (fact_columns schema)
  pub apart : AllPairs ReferenceApart (fact_columns schema)
