-- When the condition of a WHERE holds on a joined row, as it is written,
-- before it is split by tables.
use Rattle.std.specs.Prelude.{◌≡◌, ℕ, Bool, true, false, not, ◌&&◌, ◌||◌, length, Option, Contains}
use Rattle.std.specs.List.{list_any}
use Rattle.std.specs.Option.{option_map_or}
use Rattle.star_values.specs.declared.value.Value.{Value}
use Rattle.star_parser.specs.declared.tree.Column.{Column}
use Rattle.star_parser.specs.Condition.{Condition, Conditions, Either, Both, Negate, Test, Same, Between, OneOf, none, more}
use Rattle.star_plan.specs.Joined.{Joined, dimension_of, value_at}
use Rattle.star_plan.specs.Row.{value_in}
use Rattle.star_plan.specs.Truth.{compares}
use Rattle.star_plan.specs.declared.predicate.How.TheVariants.{Eq, Ge, Le}
use Rattle.star_plan.specs.declared.table.Table.TheVariants.{Dimension}
use Rattle.star_binder.specs.Bound.{how_of}
use Rattle.star_binder.specs.Conjuncts.{references}
use Rattle.star_binder.specs.Places.{place_of}
use Rattle.star_binder.specs.Scope.{TablesInScope}

-- the value that a joined row has in a column
abbrev pub column_value : TablesInScope → Joined → Column → Value
column_value scope row column = value_at (place_of scope column) row

-- what holds on a joined row: a condition, and all or some of a list
abbrev mutual
  -- whether a condition holds on a joined row; two columns are the same
  -- where their values are equal
  pub where_holds : TablesInScope → Joined → Condition → Bool
  where_holds scope row (Either ts) = some_of_where scope row ts
  where_holds scope row (Both ts) = all_of_where scope row ts
  where_holds scope row (Negate t) = not (where_holds scope row t)
  where_holds scope row (Test column how value) =
      compares (how_of how) (column_value scope row column) value
  where_holds scope row (Same left right) =
      compares Eq (column_value scope row left) (column_value scope row right)
  where_holds scope row (Between column low high) =
      compares Ge (column_value scope row column) low
      && compares Le (column_value scope row column) high
  where_holds scope row (OneOf column values) =
      list_any (compares Eq (column_value scope row column)) values

  -- whether each condition of a list holds
  pub all_of_where : TablesInScope → Joined → Conditions → Bool
  all_of_where scope row none = true
  all_of_where scope row (more t ts) = where_holds scope row t && all_of_where scope row ts

  -- whether some condition of a list holds
  pub some_of_where : TablesInScope → Joined → Conditions → Bool
  some_of_where scope row none = false
  some_of_where scope row (more t ts) = where_holds scope row t || some_of_where scope row ts

-- whether a WHERE that there may not be holds
abbrev pub whole_where_holds : TablesInScope → Joined → Option Condition → Bool
whole_where_holds scope row condition = option_map_or (where_holds scope row) condition true

-- a joined row has a row for each dimension, and for each that is among the tables the one whose
-- key the fact row references
pub record IsJoinedByKeys (scope : TablesInScope) (row : Joined) : Type 0 where
  pub rows : length row.dimensions ≡ length scope.schema.dimensions
  pub keys : (column dimension : ℕ) → references scope.schema column dimension ≡ true
      → Contains scope.tables (Dimension dimension)
      → value_in row.fact column ≡ value_in (dimension_of row dimension) 0
