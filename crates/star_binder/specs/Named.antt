-- What the condition of a WHERE names: its columns, its literals with the columns that they stand
-- beside, and whether it compares two columns.
use Rattle.std.specs.Prelude.{Bool, true, false, ◌||◌, List, [], ◌∷◌, ◌++◌, map, Option, Some, None}
use Rattle.star_values.specs.declared.value.Value.{Value}
use Rattle.star_parser.specs.declared.ast.AstItem.{AstItem}
use Rattle.star_parser.specs.declared.ast.AstItem.TheVariants.{Plain, CountAll, Count, Sum, Min, Max}
use Rattle.star_parser.specs.declared.tree.Column.{Column}
use Rattle.star_parser.specs.Condition.{Condition, Conditions, Either, Both, Negate, Test, Same, Between, OneOf, none, more, conjuncts}

-- the columns that a condition, or a list of conditions, names
abbrev mutual
  -- the columns of a condition, in the order of the line
  pub columns_in : Condition → List Column
  columns_in (Either ts) = columns_in_all ts
  columns_in (Both ts) = columns_in_all ts
  columns_in (Negate t) = columns_in t
  columns_in (Test column how value) = column ∷ []
  columns_in (Same left right) = left ∷ right ∷ []
  columns_in (Between column low high) = column ∷ []
  columns_in (OneOf column values) = column ∷ []

  -- those of a list of conditions, one after another
  pub columns_in_all : Conditions → List Column
  columns_in_all none = []
  columns_in_all (more t ts) = columns_in t ++ columns_in_all ts

-- a literal beside a column
abbrev pub beside : Column → Value → Column × Value
beside column value = (column, value)

-- the literals of a condition, or of a list of conditions
abbrev mutual
  -- the literals of a condition, each with its column, in the order of the line
  pub literals_in : Condition → List (Column × Value)
  literals_in (Either ts) = literals_in_all ts
  literals_in (Both ts) = literals_in_all ts
  literals_in (Negate t) = literals_in t
  literals_in (Test column how value) = beside column value ∷ []
  literals_in (Same left right) = []
  literals_in (Between column low high) = beside column low ∷ beside column high ∷ []
  literals_in (OneOf column values) = map (beside column) values

  -- those of a list of conditions, one after another
  pub literals_in_all : Conditions → List (Column × Value)
  literals_in_all none = []
  literals_in_all (more t ts) = literals_in t ++ literals_in_all ts

-- where two columns are compared, in a condition or in a list of conditions
abbrev mutual
  -- whether a condition compares two columns anywhere in it
  pub compares_columns : Condition → Bool
  compares_columns (Either ts) = some_compares_columns ts
  compares_columns (Both ts) = some_compares_columns ts
  compares_columns (Negate t) = compares_columns t
  compares_columns (Test column how value) = false
  compares_columns (Same left right) = true
  compares_columns (Between column low high) = false
  compares_columns (OneOf column values) = false

  -- whether some condition of a list does
  pub some_compares_columns : Conditions → Bool
  some_compares_columns none = false
  some_compares_columns (more t ts) = compares_columns t || some_compares_columns ts

-- the conjuncts of a WHERE that there may not be: the members of its outermost `and`, or the whole
abbrev pub where_conjuncts : Option Condition → List Condition
where_conjuncts None = []
where_conjuncts (Some t) = conjuncts t

-- the column of an item
abbrev pub column_of_item : AstItem → Option Column
column_of_item (Plain column) = Some column
column_of_item CountAll = None
column_of_item (Count column) = Some column
column_of_item (Sum column) = Some column
column_of_item (Min column) = Some column
column_of_item (Max column) = Some column
