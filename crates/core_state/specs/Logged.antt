-- The changes of a history, told from its tables: of each change only its kind is kept beside them.
use Rattle.std.specs.Prelude.{ℕ, ◌+◌, ◌<◌, ◌==◌, false, List, [], ◌∷◌, AllPairs, filter, length, map, slice_get, slice_index_or}
use Rattle.std.specs.List.{range_with_len}
use Rattle.std.specs.Option.{option_map_or}
use Rattle.star_values.specs.declared.value.Value as cell
use Rattle.star_plan.specs.declared.table.Table.TheVariants.{Fact, Dimension}
use Rattle.star_plan.specs.declared.table_def.TableDef.{TableDef}
use Rattle.dimension_rows.specs.declared.dimension_row.DimensionRow.{DimensionRow}
use Rattle.query_meaning.specs.History.{Change, DimensionDeclared, FactDeclared, Loaded, Ended}
use Rattle.query_meaning.specs.Store.{PlainVersion, Store, rows_in}
use Rattle.star_store.specs.declared.applied.ChangeKind.{ChangeKind}
use Rattle.star_store.specs.declared.applied.ChangeKind.TheVariants.{DeclaresDimension, DeclaresFact, Loads, Ends}

-- a table without a name and columns, where none was declared
abbrev pub no_table : TableDef
no_table = record { name = []; columns = [] }

-- the rows of a dimension that a commit loaded, in their order
abbrev pub rows_loaded_by : (commit : ℕ) → List DimensionRow → List (List cell.Value)
rows_loaded_by commit rows =
    map (λ entry. entry.row) (filter (λ entry. entry.commit == commit) rows)

-- the rows of the versions that a commit loaded, in their order
abbrev pub facts_loaded_by : (commit : ℕ) → List PlainVersion → List (List cell.Value)
facts_loaded_by commit versions =
    map (λ version. version.row) (filter (λ version. version.begin == commit) versions)

-- the positions, ascending, of the versions that a commit ended
abbrev pub positions_ended_by : (commit : ℕ) → List PlainVersion → List ℕ
positions_ended_by commit versions =
    filter (λ position.
    option_map_or (λ version. version.end == commit) (slice_get versions position) false)
    (range_with_len 0 (length versions))

-- the change of a kind that the tables tell: where it is a declaration of a dimension, that of the
-- dimension of this number, and where it is a commit, the one of this number
abbrev pub change_told : Store → (dimension commit : ℕ) → ChangeKind → Change
change_told store dimension commit DeclaresDimension =
    DimensionDeclared (slice_index_or store.schema.dimensions dimension no_table)
change_told store dimension commit DeclaresFact =
    FactDeclared (option_map_or (λ table. table) store.schema.fact no_table)
change_told store dimension commit (Loads Fact) =
    Loaded Fact (facts_loaded_by commit store.versions)
change_told store dimension commit (Loads (Dimension number)) =
    Loaded (Dimension number) (rows_loaded_by commit (rows_in store.dimensions number))
change_told store dimension commit Ends = Ended (positions_ended_by commit store.versions)

-- the changes of these kinds that the tables tell, in their order, from the dimension and the
-- commit of these numbers on: each declaration of a dimension is the next dimension, and each load
-- and each delete the next commit
abbrev pub changes_told : Store → (dimension commit : ℕ) → List ChangeKind → List Change
changes_told store dimension commit [] = []
changes_told store dimension commit (DeclaresDimension ∷ kinds) =
    change_told store dimension commit DeclaresDimension
    ∷ changes_told store (dimension + 1) commit kinds
changes_told store dimension commit (DeclaresFact ∷ kinds) =
    change_told store dimension commit DeclaresFact ∷ changes_told store dimension commit kinds
changes_told store dimension commit (Loads table ∷ kinds) =
    change_told store dimension commit (Loads table)
    ∷ changes_told store dimension (commit + 1) kinds
changes_told store dimension commit (Ends ∷ kinds) =
    change_told store dimension commit Ends ∷ changes_told store dimension (commit + 1) kinds

-- the positions of a delete are ascending
abbrev pub EndsAscending : Change → Type 0
EndsAscending (Ended positions) = AllPairs (λ position later. position < later) positions
EndsAscending other = Unit {0}
