-- What the parts of a declaration or a load say to one another.
use Rattle.std.specs.Prelude.{◌≡◌, ℕ, ◌+◌, ◌<◌, ◌≤◌, false, List, [], ◌∷◌, ◌++◌, All, length, map, position, slice_index_or, IfSome, IsOkAnd, IsSome, Option, Some, None}
use Rattle.star_values.specs.declared.value.Kind.{Kind}
use Rattle.star_values.specs.Roomy.{Roomy}
use Rattle.star_values.specs.declared.value.Value as cell
use Rattle.star_plan.specs.declared.schema.Schema.{Schema}
use Rattle.star_plan.specs.declared.table.Table.TheVariants.{Dimension}
use Rattle.star_plan.specs.declared.table_def.TableDef.{TableDef}
use Rattle.star_plan.specs.Columns.{columns_of, fact_columns, kinds_of}
use Rattle.star_plan.specs.Declaration.{declared_dimension, references}
use Rattle.star_plan.specs.Limits.{with_dimension}
use Rattle.star_plan.specs.Schemas.{IsDeclared}
use Rattle.fact_versions.specs.declared.version.TheConstants.{KEYS_IN_A_VERSION}
use Rattle.fact_versions.specs.declared.version.Version.{Version}
use Rattle.dimension_rows.specs.declared.dimension_row.DimensionRow.{DimensionRow}
use Rattle.dimension_rows.specs.declared.dimension_row.TheConstants.{MAX_DIMENSION_ROWS}
use Rattle.dimension_rows.specs.Keys.{index_of, key_of}
use Rattle.query_meaning.specs.Alone.{foreign_key}
use Rattle.query_meaning.specs.History.{versions_by}
use Rattle.query_meaning.specs.Keyed.{HasKeyNumbers, plain_version}
use Rattle.query_meaning.specs.KeptTables.{rows_of_all}
use Rattle.query_meaning.specs.Store.{rows_in}
use Rattle.star_store.specs.Loads.{repeats_a_key}

-- the schema has a dimension more, for which there are no rows yet
pub record AddsDimension (table : TableDef) (old new : Schema)
    (before after : List (List DimensionRow)) : Type 0 where
  pub schema : IsOkAnd (declared_dimension old table)
      (λ declared. new ≡ with_dimension old declared)
  pub rows : after ≡ before ++ [] ∷ []

-- the dimension of this number is one of a declared schema, of which all rows are there, and what
-- was read has the kinds of its columns
pub record IsReadForDimension (schema : Schema) (dims : List (Roomy DimensionRow)) (number : ℕ)
    (read : List Kind) : Type 0 where
  pub declared : IsDeclared schema
  pub there : number < length schema.dimensions
  pub count : length dims ≡ length schema.dimensions
  pub kinds : read ≡ kinds_of (columns_of schema (Dimension number))

-- a dimension takes rows behind those that it holds: there is room, and each has a key of its own
pub record TakesNewRows (held : List DimensionRow) (rows : List (List cell.Value)) : Type 0 where
  pub few : length held + length rows ≤ MAX_DIMENSION_ROWS
  pub keys : All (λ row. IsSome (key_of row)) rows
  pub fresh : repeats_a_key held rows ≡ false

-- all rows of the dimensions of a declared schema are there, and none came later than this commit
pub record HasRowsUpTo (schema : Schema) (dims : List (Roomy DimensionRow)) (commit : ℕ)
    : Type 0 where
  pub declared : IsDeclared schema
  pub count : length dims ≡ length schema.dimensions
  pub loaded : (dimension : ℕ) →
      All (λ entry. entry.commit ≤ commit) (rows_in (rows_of_all dims) dimension)

-- the versions are what a commit makes of these rows, and each has its key numbers
pub record AreVersionsBy (schema : Schema) (dimensions : List (List DimensionRow)) (commit : ℕ)
    (rows : List (List cell.Value)) (made : List Version) : Type 0 where
  pub versions : map plain_version made ≡ versions_by commit rows
  pub keyed : All (HasKeyNumbers schema dimensions) made

-- for each dimension the number of the column that references it, where one does
abbrev pub AreReferences : Schema → List (Option ℕ) → Type 0
AreReferences schema columns = (dimension : ℕ) → dimension < length schema.dimensions →
    slice_index_or columns dimension None ≡ position (references dimension) (fact_columns schema)

-- for each dimension that there may be a number: where a column references it, the place of the row
-- with this row's foreign key, and else 0
pub record AreKeyNumbers (schema : Schema) (dimensions : List (List DimensionRow))
    (row : List cell.Value) (keys : List ℕ) : Type 0 where
  pub count : length keys ≡ KEYS_IN_A_VERSION
  pub places : (dimension : ℕ) → IfSome (foreign_key schema dimension row)
      (λ key. index_of (rows_in dimensions dimension) key ≡ Some (slice_index_or keys dimension 0))
  pub others : (dimension : ℕ) → foreign_key schema dimension row ≡ None
      → slice_index_or keys dimension 0 ≡ 0
