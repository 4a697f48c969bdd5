-- Which tests may stand over the rows of a table, and which rows fit it.
use Rattle.std.specs.Prelude.{ℕ, Bool, true, false, ◌&&◌, List, slice_get, Option, Some, None}
use Rattle.std.specs.List.{list_all}
use Rattle.std.specs.Option.{option_map_or}
use Rattle.std.specs.Cmp.Lexicographic.{pointwise}
use Rattle.star_values.specs.declared.value.Kind.{Kind}
use Rattle.star_values.specs.declared.value.Kind.TheVariants.{Int, Text}
use Rattle.star_values.specs.declared.value.Value.{Value}
use Rattle.star_values.specs.Value.{kind_of, kinds_in}
use Rattle.star_plan.specs.declared.table_def.TableDef.{TableDef}
use Rattle.star_plan.specs.Columns.{kinds_of}
use Rattle.star_plan.specs.Test.{Test, Tests, Compare, Between, OneOf, Both, Either, Negate, none, more, Selection, Unnamed, AllRows, Chosen}

-- whether two kinds are the same
abbrev pub same_kind : Kind → Kind → Bool
same_kind Int Int = true
same_kind Int Text = false
same_kind Text Int = false
same_kind Text Text = true

-- whether a value may stand in a column of a table whose columns have these kinds
abbrev pub fits_column : List Kind → ℕ → Value → Bool
fits_column kinds column value =
    option_map_or (λ kind. same_kind kind (kind_of value)) (slice_get kinds column) false

-- which tests suit the columns of a table: a test, and all of a list
abbrev mutual
  -- whether each column that a test names is there and has the kind of the values beside it
  pub test_fits : List Kind → Test → Bool
  test_fits kinds (Compare column how value) = fits_column kinds column value
  test_fits kinds (Between column low high) =
      fits_column kinds column low && fits_column kinds column high
  test_fits kinds (OneOf column values) = list_all (fits_column kinds column) values
  test_fits kinds (Both ts) = all_fit kinds ts
  test_fits kinds (Either ts) = all_fit kinds ts
  test_fits kinds (Negate t) = test_fits kinds t

  -- the same of each test of a list
  pub all_fit : List Kind → Tests → Bool
  all_fit kinds none = true
  all_fit kinds (more t ts) = test_fits kinds t && all_fit kinds ts

-- the same of a test that there may not be
abbrev pub some_test_fits : List Kind → Option Test → Bool
some_test_fits kinds None = true
some_test_fits kinds (Some t) = test_fits kinds t

-- the same of the test of a selection
abbrev pub selection_fits : List Kind → Selection → Bool
selection_fits kinds Unnamed = true
selection_fits kinds AllRows = true
selection_fits kinds (Chosen t) = test_fits kinds t

-- whether a row fits a table: it has as many values as the table has columns,
-- each of its column's kind
abbrev pub fits_table : TableDef → List Value → Bool
fits_table table row = pointwise same_kind (kinds_of table.columns) (kinds_in row)
