-- The tables of a star schema, with the commits by which their rows came and went.
use Rattle.std.specs.Prelude.{ℕ, List, [], None, slice_index_or}
use Rattle.star_values.specs.declared.value.Value as cell
use Rattle.star_plan.specs.declared.schema.Schema.{Schema}
use Rattle.dimension_rows.specs.declared.dimension_row.DimensionRow.{DimensionRow}

-- a fact row from the commit that loaded it to the commit that ended it, or 0
pub record PlainVersion : Type 0 where
  pub row : List cell.Value
  pub begin : ℕ
  pub end : ℕ

-- the declared tables, the rows of each dimension and the versions of fact rows in the order of
-- loading, and the number of commits
pub record Store : Type 0 where
  pub schema : Schema
  pub dimensions : List (List DimensionRow)
  pub versions : List PlainVersion
  pub commits : ℕ

-- no table
abbrev pub empty_store : Store
empty_store = record {
  schema = record { dimensions = []; fact = None };
  dimensions = [];
  versions = [];
  commits = 0;
}

-- the rows of the dimension of this number, and none where it is not declared
abbrev pub rows_in : List (List DimensionRow) → ℕ → List DimensionRow
rows_in dimensions dimension = slice_index_or dimensions dimension []
