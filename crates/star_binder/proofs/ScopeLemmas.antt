-- The tables of a schema within its limits have few columns.
use Rattle.std.proofs.Common.{ℕ, zero, suc, ◌≤◌, List, [], ◌∷◌, length, Option, Some, None, All, IfSome, slice_get, arith}
use Rattle.std.specs.Option.{option_map_or}
use Rattle.std.proofs.lemmas.List.Elements.{All-head, All-tail}
use Rattle.star_plan.specs.declared.schema.Schema.{Schema}
use Rattle.star_plan.specs.declared.table_def.TableDef.{TableDef}
use Rattle.star_plan.specs.Limits.{HasFewColumns, IsWithinLimits}
use Rattle.star_values.specs.declared.column_lists.TheConstants.{MAX_COLUMNS}
use Rattle.star_plan.specs.Columns.{columns_of}
use Rattle.star_plan.specs.declared.table.Table.{Table}
use Rattle.star_plan.specs.declared.table.Table.TheVariants.{Fact, Dimension}

-- no table has no columns
few_of : (table : Option TableDef) → IfSome table HasFewColumns → length (option_map_or (λ t. t.columns) table []) ≤ MAX_COLUMNS
few_of None h = omega arith
few_of (Some table) h = h

-- each of many
few_at : (tables : List TableDef) (d : ℕ) → All HasFewColumns tables → length (option_map_or (λ t. t.columns) (slice_get tables d) []) ≤ MAX_COLUMNS
few_at [] d h = omega arith
few_at (t ∷ tables) zero h = All-head HasFewColumns t tables h
few_at (t ∷ tables) (suc d) h = few_at tables d (All-tail HasFewColumns t tables h)

-- each table of the schema
pub few_columns : (schema : Schema) (table : Table) → IsWithinLimits schema → length (columns_of schema table) ≤ MAX_COLUMNS
few_columns schema Fact h = few_of schema.fact h.fact
few_columns schema (Dimension d) h = few_at schema.dimensions d h.columns
