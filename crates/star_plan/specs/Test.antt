-- A predicate, a choice and a query, without where they lie in memory.
use Rattle.std.specs.Prelude.{ℕ, List, [], ◌∷◌, map, Option, option_map}
use Rattle.star_values.specs.declared.value.Value.{Value}
use Rattle.star_plan.specs.declared.choice.Choice.{Choice}
use Rattle.star_plan.specs.declared.choice.Choice.TheVariants as choice
use Rattle.star_plan.specs.declared.item.Item.{Item}
use Rattle.star_plan.specs.declared.place.Place.{Place}
use Rattle.star_plan.specs.declared.predicate.How.{How}
use Rattle.star_plan.specs.declared.predicate.Predicate.{Predicate}
use Rattle.star_plan.specs.declared.predicate.Predicate.TheOpen as layer
use Rattle.star_plan.specs.declared.predicate.Predicate.TheFolds.{fold-Predicate}
use Rattle.star_plan.specs.declared.star_query.StarQuery.{StarQuery}

mutual
  pub data Test : Type 0 where
    Compare : ℕ → How → Value → Test
    Between : ℕ → Value → Value → Test
    OneOf : ℕ → List Value → Test
    Both : Tests → Test
    Either : Tests → Test
    Negate : Test → Test

  pub data Tests : Type 0 where
    none : Tests
    more : Test → Tests → Tests

-- tests from a list
abbrev pub tests : List Test → Tests
tests [] = none
tests (t ∷ ts) = more t (tests ts)

-- one layer of a predicate, with the tests of its members in their places
abbrev pub test_step : layer.Predicate-F Test (List Test) → Test
test_step (layer.Compare column how value) = Compare column how value
test_step (layer.Between column low high) = Between column low high
test_step (layer.OneOf column values) = OneOf column values
test_step (layer.Both members) = Both (tests members)
test_step (layer.Either members) = Either (tests members)
test_step (layer.Negate member) = Negate member.value

-- the test that a predicate is
abbrev pub test_of : Predicate → Test
test_of predicate = fold-Predicate Test (List Test) test_step (λ list. list.members.items) predicate

-- which rows of a dimension are taken
pub data Selection : Type 0 where
  Unnamed : Selection
  AllRows : Selection
  Chosen : Test → Selection

-- the selection that a choice is
abbrev pub selection_of : Choice → Selection
selection_of choice.Unnamed = Unnamed
selection_of choice.AllRows = AllRows
selection_of (choice.Chosen predicate) = Chosen (test_of predicate)

-- a star query
pub record Query : Type 0 where
  pub fact : Option Test
  pub choices : List Selection
  pub groups : List Place
  pub items : List Item

-- the query that a `StarQuery` is
abbrev pub query_of : StarQuery → Query
query_of query = record {
  fact = option_map test_of query.fact;
  choices = map selection_of query.choices;
  groups = query.groups;
  items = query.items;
}
