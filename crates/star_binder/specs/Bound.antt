-- The query that a select is: its columns are places, key joins are left out, and the other
-- conjuncts of each table are one test.
use Rattle.std.specs.Prelude.{ℕ, List, [], ◌∷◌, map, filter, length, Option, Some, None, if◌then◌else◌}
use Rattle.std.specs.List.{list_any, range_with_len}
use Rattle.star_parser.specs.declared.ast.AstItem.{AstItem}
use Rattle.star_parser.specs.declared.ast.AstItem.TheVariants as written
use Rattle.star_parser.specs.declared.tree.Column.{Column}
use Rattle.star_parser.specs.declared.tree.Relation.{Relation}
use Rattle.star_parser.specs.declared.tree.Relation.TheVariants as relation
use Rattle.star_parser.specs.Condition.{Condition, Conditions, Either, Both, Negate, Test, Same, Between, OneOf, none, more}
use Rattle.star_plan.specs.declared.item.Item.{Item}
use Rattle.star_plan.specs.declared.item.Item.TheVariants as item
use Rattle.star_plan.specs.declared.predicate.How.{How}
use Rattle.star_plan.specs.declared.predicate.How.TheVariants as how
use Rattle.star_plan.specs.Test as plan
use Rattle.star_plan.specs.Test.{Query, Selection, Unnamed, AllRows, Chosen, tests}
use Rattle.star_plan.specs.Columns.{same_table}
use Rattle.star_plan.specs.declared.table.Table.{Table}
use Rattle.star_plan.specs.declared.table.Table.TheVariants.{Fact, Dimension}
use Rattle.star_binder.specs.Conjuncts.{is_on}
use Rattle.star_binder.specs.Places.{place_of, number_at}
use Rattle.star_binder.specs.Scope.{TablesInScope}
use Rattle.star_binder.specs.Select.{SelectParts}

-- the same comparison
abbrev pub how_of : Relation → How
how_of relation.Eq = how.Eq
how_of relation.Ne = how.Ne
how_of relation.Lt = how.Lt
how_of relation.Le = how.Le
how_of relation.Gt = how.Gt
how_of relation.Ge = how.Ge

-- the number of the column of a table that a column stands for
abbrev pub number_of : TablesInScope → Column → ℕ
number_of scope column = number_at (place_of scope column)

-- a condition, and those of a list, as tests of one table
abbrev mutual
  -- a condition on one table as a test of its rows. No condition on one table compares two columns
  pub bound_test : TablesInScope → Condition → plan.Test
  bound_test scope (Either ts) = plan.Either (bound_tests scope ts)
  bound_test scope (Both ts) = plan.Both (bound_tests scope ts)
  bound_test scope (Negate t) = plan.Negate (bound_test scope t)
  bound_test scope (Test column how value) =
      plan.Compare (number_of scope column) (how_of how) value
  bound_test scope (Same left right) = plan.Both plan.none
  bound_test scope (Between column low high) = plan.Between (number_of scope column) low high
  bound_test scope (OneOf column values) = plan.OneOf (number_of scope column) values

  -- the same of each condition of a list
  pub bound_tests : TablesInScope → Conditions → plan.Tests
  bound_tests scope none = plan.none
  bound_tests scope (more t ts) = plan.more (bound_test scope t) (bound_tests scope ts)

-- several tests of one table are one `Both`
abbrev pub all_of : List plan.Test → Option plan.Test
all_of [] = None
all_of (t ∷ []) = Some t
all_of (t ∷ u ∷ ts) = Some (plan.Both (tests (t ∷ u ∷ ts)))

-- the conditions on a table among these conjuncts, as one test
abbrev pub test_on : TablesInScope → List Condition → Table → Option plan.Test
test_on scope conjuncts table =
    all_of (map (bound_test scope) (filter (is_on scope table) conjuncts))

-- the rows of a dimension that is named: those on which its test holds, where there is one
abbrev pub named_selection : Option plan.Test → Selection
named_selection None = AllRows
named_selection (Some t) = Chosen t

-- what a query says of the dimension of this number
abbrev pub selection_on : TablesInScope → List Condition → ℕ → Selection
selection_on scope conjuncts dimension =
    if list_any (same_table (Dimension dimension)) scope.tables
    then named_selection (test_on scope conjuncts (Dimension dimension))
    else Unnamed

-- an item with its column replaced by its place
abbrev pub bound_item : TablesInScope → AstItem → Item
bound_item scope (written.Plain column) = item.Plain (place_of scope column)
bound_item scope written.CountAll = item.CountAll
bound_item scope (written.Count column) = item.Count (place_of scope column)
bound_item scope (written.Sum column) = item.Sum (place_of scope column)
bound_item scope (written.Min column) = item.Min (place_of scope column)
bound_item scope (written.Max column) = item.Max (place_of scope column)

-- the query of a select over these tables
abbrev pub query_in : TablesInScope → SelectParts → Query
query_in scope select = record {
  fact = test_on scope select.conjuncts Fact;
  choices =
      map (selection_on scope select.conjuncts) (range_with_len 0 (length scope.schema.dimensions));
  groups = map (place_of scope) select.groups;
  items = map (bound_item scope) select.items;
}
