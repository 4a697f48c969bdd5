-- A history: the accepted declarations, loads and deletes in order, and the tables that they make.
use Rattle.std.specs.Prelude.{ℕ, zero, suc, ◌+◌, Bool, true, false, List, [], ◌∷◌, ◌++◌, map, fold, count_by, slice_set}
use Rattle.star_values.specs.declared.value.Value as cell
use Rattle.star_plan.specs.declared.table.Table.{Table}
use Rattle.star_plan.specs.declared.table.Table.TheVariants.{Fact, Dimension}
use Rattle.star_plan.specs.declared.table_def.TableDef.{TableDef}
use Rattle.star_plan.specs.Limits.{with_dimension, with_fact}
use Rattle.dimension_rows.specs.declared.dimension_row.DimensionRow.{DimensionRow}
use Rattle.query_meaning.specs.Store.{PlainVersion, Store, empty_store, rows_in}

-- the change of one accepted statement: a declaration, rows loaded into a table, or the positions
-- of the versions that a delete ended
pub data Change : Type 0 where
  DimensionDeclared : TableDef → Change
  FactDeclared : TableDef → Change
  Loaded : Table → List (List cell.Value) → Change
  Ended : List ℕ → Change

-- rows of a dimension that a commit loaded
abbrev pub rows_by : ℕ → List (List cell.Value) → List DimensionRow
rows_by commit rows = map (λ row. record { row = row; commit = commit }) rows

-- versions of fact rows that a commit loaded
abbrev pub versions_by : ℕ → List (List cell.Value) → List PlainVersion
versions_by commit rows = map (λ row. record { row = row; begin = commit; end = 0 }) rows

-- the version at a position, from 0, ended by a commit
abbrev pub with_end : (commit : ℕ) → List PlainVersion → (position : ℕ) → List PlainVersion
with_end commit [] position = []
with_end commit (version ∷ versions) zero = record version { end = commit } ∷ versions
with_end commit (version ∷ versions) (suc position) = version ∷ with_end commit versions position

-- the versions at these positions ended by a commit
abbrev pub with_ends : (commit : ℕ) → List PlainVersion → (positions : List ℕ) → List PlainVersion
with_ends commit versions positions = fold (with_end commit) versions positions

-- more rows behind those of the dimension of this number
abbrev pub grown_at : ℕ → List DimensionRow → List (List DimensionRow) → List (List DimensionRow)
grown_at dimension rows dimensions =
    slice_set dimensions dimension (rows_in dimensions dimension ++ rows)

-- the tables after one change more. A load and a delete are each the next commit
abbrev pub after_change : Store → Change → Store
after_change store (DimensionDeclared table) =
    record store {
      schema = with_dimension store.schema table;
      dimensions = store.dimensions ++ [] ∷ [];
    }
after_change store (FactDeclared table) = record store { schema = with_fact store.schema table }
after_change store (Loaded Fact rows) =
    record store {
      versions = store.versions ++ versions_by (store.commits + 1) rows;
      commits = store.commits + 1;
    }
after_change store (Loaded (Dimension dimension) rows) =
    record store {
      dimensions = grown_at dimension (rows_by (store.commits + 1) rows) store.dimensions;
      commits = store.commits + 1;
    }
after_change store (Ended positions) =
    record store {
      versions = with_ends (store.commits + 1) store.versions positions;
      commits = store.commits + 1;
    }

-- the tables of a history
abbrev pub store_of : List Change → Store
store_of history = fold after_change empty_store history

-- whether a change is a commit: a load or a delete is, a declaration is not
abbrev pub is_commit : Change → Bool
is_commit (DimensionDeclared table) = false
is_commit (FactDeclared table) = false
is_commit (Loaded table rows) = true
is_commit (Ended positions) = true

-- how many commits a history has
abbrev pub commits_of : List Change → ℕ
commits_of history = count_by is_commit history
