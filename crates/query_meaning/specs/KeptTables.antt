-- The tables of a history as they are kept: a schema, the rows of each dimension and the versions
-- of the fact table, which have room for more, and the number of commits.
use Rattle.std.specs.Prelude.{ℕ, List, map}
use Rattle.star_values.specs.Roomy.{Roomy}
use Rattle.star_plan.specs.declared.schema.Schema.{Schema}
use Rattle.fact_versions.specs.declared.version.Version.{Version}
use Rattle.dimension_rows.specs.declared.dimension_row.DimensionRow.{DimensionRow}
use Rattle.query_meaning.specs.Keyed.{IsKeyed, KeyedStore, plain}
use Rattle.query_meaning.specs.Settled.{IsSettled}

-- the rows of each dimension
abbrev pub rows_of_all : List (Roomy DimensionRow) → List (List DimensionRow)
rows_of_all dims = map (λ dimension. dimension.items) dims

-- the tables that the parts of a store are
abbrev pub tables_of : Schema → List (Roomy DimensionRow) → Roomy Version → (commits : ℕ)
    → KeyedStore
tables_of schema dims facts commits = record {
  schema = schema;
  dimensions = rows_of_all dims;
  versions = facts.items;
  commits = commits;
}

-- they are the tables of an accepted history, and each version has its key numbers
abbrev pub AreSound : KeyedStore → Type 0
AreSound store = IsSettled (plain store) × IsKeyed store
