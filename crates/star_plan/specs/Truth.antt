-- When a test holds on a row.
use Rattle.std.specs.Prelude.{ℕ, Bool, true, false, ◌&&◌, ◌||◌, not, List, Option}
use Rattle.std.specs.List.{list_any}
use Rattle.std.specs.Option.{option_map_or}
use Rattle.std.specs.declared.cmp.Ordering.{Ordering}
use Rattle.std.specs.Ordering.{is_eq, is_lt, is_gt, is_le, is_ge, is_ne}
use Rattle.star_values.specs.declared.value.Value.{Value}
use Rattle.star_values.specs.Value.{value_cmp}
use Rattle.star_plan.specs.declared.predicate.How.{How}
use Rattle.star_plan.specs.declared.predicate.How.TheVariants.{Eq, Ne, Lt, Le, Gt, Ge}
use Rattle.star_plan.specs.Row.{value_in}
use Rattle.star_plan.specs.Test.{Test, Tests, Compare, Between, OneOf, Both, Either, Negate, none, more}

-- whether an order is what a comparison asks for
abbrev pub is_asked : How → Ordering → Bool
is_asked Eq order = is_eq order
is_asked Ne order = is_ne order
is_asked Lt order = is_lt order
is_asked Le order = is_le order
is_asked Gt order = is_gt order
is_asked Ge order = is_ge order

-- whether two values compare as asked
abbrev pub compares : How → Value → Value → Bool
compares how left right = is_asked how (value_cmp left right)

-- whether the value in a column of a row compares as asked with another
abbrev pub compares_at : List Value → ℕ → How → Value → Bool
compares_at row column how value = compares how (value_in row column) value

-- what holds on a row: a test, and all or some of a list
abbrev mutual
  -- whether a test holds on a row
  pub test_holds : List Value → Test → Bool
  test_holds row (Compare column how value) = compares_at row column how value
  test_holds row (Between column low high) =
      compares_at row column Ge low && compares_at row column Le high
  test_holds row (OneOf column values) = list_any (compares_at row column Eq) values
  test_holds row (Both ts) = all_hold row ts
  test_holds row (Either ts) = some_holds row ts
  test_holds row (Negate t) = not (test_holds row t)

  -- whether each test of a list holds on a row
  pub all_hold : List Value → Tests → Bool
  all_hold row none = true
  all_hold row (more t ts) = test_holds row t && all_hold row ts

  -- whether some test of a list holds on a row
  pub some_holds : List Value → Tests → Bool
  some_holds row none = false
  some_holds row (more t ts) = test_holds row t || some_holds row ts

-- whether a test that there may not be holds on a row
abbrev pub passes : Option Test → List Value → Bool
passes test row = option_map_or (test_holds row) test true
