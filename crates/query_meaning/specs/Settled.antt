-- What holds of the tables of every accepted history.
use Rattle.std.specs.Prelude.{◌≡◌, ℕ, ◌<◌, ◌≤◌, ◌⊎◌, List, [], length, slice_get, All, AllPairs, IfSome, IsTrue, Some, None}
use Rattle.star_values.specs.declared.value.Value as cell
use Rattle.star_plan.specs.declared.schema.Schema.{Schema}
use Rattle.star_plan.specs.declared.table_def.TableDef.{TableDef}
use Rattle.star_plan.specs.Fits.{fits_table}
use Rattle.star_plan.specs.Schemas.{IsDeclared}
use Rattle.fact_versions.specs.declared.version.TheConstants.{MAX_VERSIONS}
use Rattle.dimension_rows.specs.declared.dimension_row.DimensionRow.{DimensionRow}
use Rattle.dimension_rows.specs.declared.dimension_row.TheConstants.{MAX_DIMENSION_ROWS}
use Rattle.dimension_rows.specs.Keys.{AreKeyed, index_of}
use Rattle.query_meaning.specs.Alone.{foreign_key}
use Rattle.query_meaning.specs.Store.{PlainVersion, Store, rows_in}

-- at this place stands the row of a key, and it came by this commit or before
pub record IsPlaceOf (rows : List DimensionRow) (key : cell.Value) (commit place : ℕ) : Type 0 where
  pub found : index_of rows key ≡ Some place
  pub loaded : IfSome (slice_get rows place) (λ entry. entry.commit ≤ commit)

-- each foreign key of a fact row is the key of a row that came by this commit or before
abbrev pub IsMatched : Schema → List (List DimensionRow) → List cell.Value → (commit : ℕ) → Type 0
IsMatched schema dimensions row commit = (dimension : ℕ) → IfSome (foreign_key schema dimension row)
    (λ key. (place : ℕ) × IsPlaceOf (rows_in dimensions dimension) key commit place)

-- the rows of a dimension: few enough, keyed, fitting the table, and loaded by commits so far
pub record AreRowsOf (table : TableDef) (commits : ℕ) (rows : List DimensionRow) : Type 0 where
  pub few : length rows ≤ MAX_DIMENSION_ROWS
  pub keyed : AreKeyed rows
  pub fit : All (λ entry. IsTrue (fits_table table entry.row)) rows
  pub loaded : All (λ entry. (0 < entry.commit) × (entry.commit ≤ commits)) rows

-- a version began by a commit so far, and was not ended or by a later commit so far
pub record IsDated (commits : ℕ) (version : PlainVersion) : Type 0 where
  pub begins : 0 < version.begin
  pub begun : version.begin ≤ commits
  pub ends : (version.end ≡ 0) ⊎ ((version.begin < version.end) × (version.end ≤ commits))

-- the versions of the fact table: few enough, fitting it, dated, in the order of their commits, and
-- joined with a row of each dimension that it references
pub record AreVersionsOf (store : Store) : Type 0 where
  pub few : length store.versions ≤ MAX_VERSIONS
  pub fit : IfSome store.schema.fact (λ table.
      All (λ version. IsTrue (fits_table table version.row)) store.versions)
  pub dated : All (IsDated store.commits) store.versions
  pub rising : AllPairs (λ version later. version.begin ≤ later.begin) store.versions
  pub matched : All (λ version. IsMatched store.schema store.dimensions version.row version.begin)
      store.versions

-- the schema is one that declarations give; each dimension has its rows, and the fact table its
-- versions; and before the fact table is declared there is no row and no commit
pub record IsSettled (store : Store) : Type 0 where
  pub declared : IsDeclared store.schema
  pub count : length store.dimensions ≡ length store.schema.dimensions
  pub rows : (dimension : ℕ) → IfSome (slice_get store.schema.dimensions dimension)
      (λ table. AreRowsOf table store.commits (rows_in store.dimensions dimension))
  pub versions : AreVersionsOf store
  pub first_rows : store.schema.fact ≡ None → (store.commits ≡ 0) × (store.versions ≡ [])
