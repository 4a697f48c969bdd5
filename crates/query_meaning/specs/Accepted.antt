-- Which changes the tables take: those that the checks of statements let through.
use Rattle.std.specs.Prelude.{◌≡◌, ◌≢◌, ℕ, ◌+◌, ◌<◌, ◌≤◌, List, [], ◌∷◌, length, slice_get, All, AllPairs, IsSome, IfSome, IsTrue, None, Ok, ⊤}
use Rattle.star_values.specs.declared.value.Value as cell
use Rattle.star_plan.specs.declared.table.Table.TheVariants.{Fact, Dimension}
use Rattle.star_plan.specs.Fits.{fits_table}
use Rattle.star_plan.specs.Declaration.{declared_dimension, declared_fact}
use Rattle.star_plan.specs.Schemas.{ReferencesNothing}
use Rattle.fact_versions.specs.declared.version.TheConstants.{MAX_VERSIONS}
use Rattle.dimension_rows.specs.declared.dimension_row.TheConstants.{MAX_DIMENSION_ROWS}
use Rattle.dimension_rows.specs.Keys.{key_of, index_of}
use Rattle.query_meaning.specs.Alone.{foreign_key}
use Rattle.query_meaning.specs.History.{Change, DimensionDeclared, FactDeclared, Loaded, Ended, after_change}
use Rattle.query_meaning.specs.Store.{Store, rows_in}

-- two rows do not have one key
abbrev pub HaveOtherKeys : List cell.Value → List cell.Value → Type 0
HaveOtherKeys row other = key_of row ≢ key_of other

-- rows may be loaded into a dimension: the fact table is declared, each row fits the dimension,
-- there is room, no key stands twice among them, and none is a key of the dimension
pub record AcceptsRows (store : Store) (dimension : ℕ)
    (rows : List (List cell.Value)) : Type 0 where
  pub ready : IsSome store.schema.fact
  pub there : dimension < length store.schema.dimensions
  pub fit : IfSome (slice_get store.schema.dimensions dimension) (λ table.
      All (λ row. IsTrue (fits_table table row)) rows)
  pub room : length (rows_in store.dimensions dimension) + length rows ≤ MAX_DIMENSION_ROWS
  pub apart : AllPairs HaveOtherKeys rows
  pub new_keys : All (λ row.
      IfSome (key_of row) (λ key. index_of (rows_in store.dimensions dimension) key ≡ None))
      rows

-- rows may be loaded into the fact table: it is declared, each row fits it, there is room, and each
-- foreign key is the key of a row of its dimension
pub record AcceptsFacts (store : Store) (rows : List (List cell.Value)) : Type 0 where
  pub ready : IsSome store.schema.fact
  pub fit : IfSome store.schema.fact (λ table. All (λ row. IsTrue (fits_table table row)) rows)
  pub room : length store.versions + length rows ≤ MAX_VERSIONS
  pub matched : All (λ row. (dimension : ℕ) → IfSome (foreign_key store.schema dimension row)
      (λ key. IsSome (index_of (rows_in store.dimensions dimension) key))) rows

-- versions may be ended: the fact table is declared, and at each of the positions, no two the same,
-- stands a version that no commit ended
pub record AcceptsEnds (store : Store) (positions : List ℕ) : Type 0 where
  pub ready : IsSome store.schema.fact
  pub there : All (λ position. position < length store.versions) positions
  pub live : All (λ position.
      IfSome (slice_get store.versions position) (λ version. version.end ≡ 0))
      positions
  pub apart : AllPairs (λ position other. position ≢ other) positions

-- the tables take a change. A declared table has a column, and no column of a
-- dimension references another
abbrev pub Accepts : Store → Change → Type 0
Accepts store (DimensionDeclared table) =
    (declared_dimension store.schema table ≡ Ok table) × (0 < length table.columns)
    × ReferencesNothing table
Accepts store (FactDeclared table) =
    (declared_fact store.schema table ≡ Ok table) × (0 < length table.columns)
Accepts store (Loaded Fact rows) = AcceptsFacts store rows
Accepts store (Loaded (Dimension dimension) rows) = AcceptsRows store dimension rows
Accepts store (Ended positions) = AcceptsEnds store positions

-- each change of a history is taken by the tables that stand before it
abbrev pub AcceptsAll : Store → List Change → Type 0
AcceptsAll store [] = ⊤
AcceptsAll store (change ∷ history) =
    Accepts store change × AcceptsAll (after_change store change) history
