-- How a statement is printed, and which statements are well formed.
use Rattle.std.specs.Prelude.{◌≡◌, ℕ, Bool, true, false, List, [], ◌∷◌, ◌++◌, flat_map, Option, Some, None, All, if◌then◌else◌}
use Rattle.star_values.specs.declared.value.Value.{Value}
use Rattle.star_values.specs.declared.value.Kind.{Kind}
use Rattle.star_values.specs.declared.value.Kind.TheVariants as kinds
use Rattle.star_lexer.specs.declared.keyword.Keyword.{Keyword}
use Rattle.star_lexer.specs.declared.keyword.Keyword.TheVariants as key
use Rattle.star_lexer.specs.declared.sign.Sign.{Sign}
use Rattle.star_lexer.specs.declared.sign.Sign.TheVariants as mark
use Rattle.star_lexer.specs.declared.symbol.Symbol.{Symbol}
use Rattle.star_lexer.specs.declared.symbol.Symbol.TheVariants as symbol
use Rattle.star_lexer.specs.Limits.{IsOverLimit}
use Rattle.star_lexer.specs.Written.{IsWritable, line_of}
use Rattle.star_parser.specs.declared.ast.AstColumn.{AstColumn}
use Rattle.star_parser.specs.declared.ast.AstItem.{AstItem}
use Rattle.star_parser.specs.declared.ast.AstItem.TheVariants as items
use Rattle.star_parser.specs.declared.tree.Column.{Column}
use Rattle.star_parser.specs.declared.tree.Relation.{Relation}
use Rattle.star_parser.specs.declared.tree.Relation.TheVariants as how
use Rattle.star_parser.specs.Grammar.{comma}
use Rattle.star_parser.specs.Condition.{Condition, Conditions, Either, Both, Negate, Test, Same, Between, OneOf, none, more}
use Rattle.star_parser.specs.Statement.{Statement, Dimension, Fact, Load, Delete, Select, Wait}

-- symbols between parentheses
abbrev pub in_brackets : List Symbol → List Symbol
in_brackets symbols = symbol.Sign mark.Open ∷ symbols ++ symbol.Sign mark.Close ∷ []

-- what is printed of a list, with the separator between each two
abbrev pub joined : {A : Type 0} → Symbol → (A → List Symbol) → List A → List Symbol
joined separator print [] = []
joined separator print (value ∷ values) =
    print value ++ flat_map (λ next. separator ∷ print next) values

-- a name by itself
abbrev pub name_symbols : List ℕ → List Symbol
name_symbols name = symbol.Name name ∷ []

-- a literal by itself
abbrev pub literal_symbols : Value → List Symbol
literal_symbols value = symbol.Literal value ∷ []

-- a name, behind that of the table where there is one
abbrev pub dotted_symbols : Option (List ℕ) → List ℕ → List Symbol
dotted_symbols None name = symbol.Name name ∷ []
dotted_symbols (Some table) name = symbol.Name table ∷ symbol.Sign mark.Dot ∷ symbol.Name name ∷ []

-- a column, with or without the name of its table
abbrev pub column_symbols : Column → List Symbol
column_symbols column = dotted_symbols column.table column.name

-- the sign of a comparison
abbrev pub relation_sign : Relation → Sign
relation_sign how.Eq = mark.Equal
relation_sign how.Ne = mark.NotEqual
relation_sign how.Lt = mark.Less
relation_sign how.Le = mark.LessOrEqual
relation_sign how.Gt = mark.Greater
relation_sign how.Ge = mark.GreaterOrEqual

-- a column compared with a literal
abbrev pub test_symbols : Column → Relation → Value → List Symbol
test_symbols column how value =
    column_symbols column ++ symbol.Sign (relation_sign how) ∷ literal_symbols value

-- two columns that are equal
abbrev pub same_symbols : Column → Column → List Symbol
same_symbols left right = column_symbols left ++ symbol.Sign mark.Equal ∷ column_symbols right

-- a column between two literals
abbrev pub between_symbols : Column → Value → Value → List Symbol
between_symbols column low high =
    column_symbols column ++ symbol.Keyword key.Between ∷ symbol.Literal low
    ∷ symbol.Keyword key.And ∷ symbol.Literal high ∷ []

-- a column among literals
abbrev pub one_of_symbols : Column → List Value → List Symbol
one_of_symbols column values =
    column_symbols column ++ symbol.Keyword key.In
    ∷ in_brackets (joined comma literal_symbols values)

-- A condition where a single one is wanted stands between parentheses, if it is an `and` or an
-- `or`. A member of an `or` may be an `and` without parentheses. Members of a list are printed with
-- the keyword in front of all but the first.
abbrev mutual
  -- the symbols of a single one
  pub one_symbols : Condition → List Symbol
  one_symbols (Either ts) = in_brackets (either_symbols ts)
  one_symbols (Both ts) = in_brackets (both_symbols ts)
  one_symbols (Negate t) = symbol.Keyword key.Not ∷ one_symbols t
  one_symbols (Test column how value) = test_symbols column how value
  one_symbols (Same left right) = same_symbols left right
  one_symbols (Between column low high) = between_symbols column low high
  one_symbols (OneOf column values) = one_of_symbols column values

  -- a member of an `or`
  pub all_symbols : Condition → List Symbol
  all_symbols (Either ts) = in_brackets (either_symbols ts)
  all_symbols (Both ts) = both_symbols ts
  all_symbols (Negate t) = symbol.Keyword key.Not ∷ one_symbols t
  all_symbols (Test column how value) = test_symbols column how value
  all_symbols (Same left right) = same_symbols left right
  all_symbols (Between column low high) = between_symbols column low high
  all_symbols (OneOf column values) = one_of_symbols column values

  -- the members of an `and`
  pub both_symbols : Conditions → List Symbol
  both_symbols none = []
  both_symbols (more t ts) = one_symbols t ++ more_both_symbols ts

  -- members of an `and` behind another
  pub more_both_symbols : Conditions → List Symbol
  more_both_symbols none = []
  more_both_symbols (more t ts) = symbol.Keyword key.And ∷ one_symbols t ++ more_both_symbols ts

  -- the members of an `or`
  pub either_symbols : Conditions → List Symbol
  either_symbols none = []
  either_symbols (more t ts) = all_symbols t ++ more_either_symbols ts

  -- members of an `or` behind another
  pub more_either_symbols : Conditions → List Symbol
  more_either_symbols none = []
  more_either_symbols (more t ts) = symbol.Keyword key.Or ∷ all_symbols t ++ more_either_symbols ts

-- the keyword between two members, where one stands in front
abbrev pub separator_symbols : Bool → Keyword → List Symbol
separator_symbols behind_another keyword =
    if behind_another then (symbol.Keyword keyword ∷ []) else []

-- members of an `and` or an `or`, the first of them behind another one or not
abbrev pub both_symbols_from : Bool → Conditions → List Symbol
both_symbols_from behind_another ts =
    if behind_another then more_both_symbols ts else both_symbols ts

-- the same of an `or`
abbrev pub either_symbols_from : Bool → Conditions → List Symbol
either_symbols_from behind_another ts =
    if behind_another then more_either_symbols ts else either_symbols ts

-- a whole condition needs no parentheses
abbrev pub any_symbols : Condition → List Symbol
any_symbols (Either ts) = either_symbols ts
any_symbols (Both ts) = both_symbols ts
any_symbols (Negate t) = one_symbols (Negate t)
any_symbols (Test column how value) = test_symbols column how value
any_symbols (Same left right) = same_symbols left right
any_symbols (Between column low high) = between_symbols column low high
any_symbols (OneOf column values) = one_of_symbols column values

-- a WHERE, where there is one
abbrev pub where_symbols : Option Condition → List Symbol
where_symbols None = []
where_symbols (Some t) = symbol.Keyword key.Where ∷ any_symbols t

-- a GROUP BY, where there is one
abbrev pub group_symbols : List Column → List Symbol
group_symbols [] = []
group_symbols (column ∷ columns) =
    symbol.Keyword key.Group ∷ symbol.Keyword key.By
    ∷ joined comma column_symbols (column ∷ columns)

-- an item of a select list
abbrev pub item_symbols : AstItem → List Symbol
item_symbols (items.Plain column) = column_symbols column
item_symbols items.CountAll = symbol.Keyword key.Count ∷ in_brackets (symbol.Sign mark.Star ∷ [])
item_symbols (items.Count column) = symbol.Keyword key.Count ∷ in_brackets (column_symbols column)
item_symbols (items.Sum column) = symbol.Keyword key.Sum ∷ in_brackets (column_symbols column)
item_symbols (items.Min column) = symbol.Keyword key.Min ∷ in_brackets (column_symbols column)
item_symbols (items.Max column) = symbol.Keyword key.Max ∷ in_brackets (column_symbols column)

-- the keyword of a kind
abbrev pub kind_symbol : Kind → Symbol
kind_symbol kinds.Int = symbol.Keyword key.Int
kind_symbol kinds.Text = symbol.Keyword key.Text

-- the dimension that is referenced, where there is one
abbrev pub target_symbols : Option (List ℕ) → List Symbol
target_symbols None = []
target_symbols (Some dimension) = symbol.Keyword key.References ∷ symbol.Name dimension ∷ []

-- name, kind, and the dimension that is referenced, where there is one
abbrev pub declared_symbols : AstColumn → List Symbol
declared_symbols column =
    symbol.Name column.name ∷ kind_symbol column.kind ∷ target_symbols column.references

-- the first column of a dimension is its key
abbrev pub dimension_column_symbols : List AstColumn → List Symbol
dimension_column_symbols [] = []
dimension_column_symbols (first ∷ others) =
    declared_symbols first ++ symbol.Keyword key.Key
    ∷ flat_map (λ column. comma ∷ declared_symbols column) others

-- that a block has a header, where it has one
abbrev pub header_symbols : Bool → List Symbol
header_symbols true = symbol.Keyword key.Header ∷ []
header_symbols false = []

-- the symbols of a statement, in order
abbrev pub statement_symbols : Statement → List Symbol
statement_symbols (Dimension name columns) =
    symbol.Keyword key.Dimension ∷ symbol.Name name ∷ in_brackets (dimension_column_symbols columns)
statement_symbols (Fact name columns) =
    symbol.Keyword key.Fact ∷ symbol.Name name ∷ in_brackets (joined comma declared_symbols columns)
statement_symbols (Load name header) =
    symbol.Keyword key.Load ∷ symbol.Name name ∷ header_symbols header
statement_symbols (Delete name condition) =
    symbol.Keyword key.Delete ∷ symbol.Keyword key.From ∷ symbol.Name name ∷ where_symbols condition
statement_symbols (Select its_items tables condition groups) =
    symbol.Keyword key.Select ∷ (joined comma item_symbols its_items
    ++ symbol.Keyword key.From
    ∷ (joined comma name_symbols tables ++ (where_symbols condition ++ group_symbols groups)))
statement_symbols Wait = symbol.Keyword key.Wait ∷ []

-- the line that a statement is printed as
abbrev pub printed : Statement → List ℕ
printed meaning = line_of (statement_symbols meaning)

-- at least one member
abbrev pub IsNonempty : {A : Type 0} → List A → Type 0
IsNonempty [] = ⊥
IsNonempty (value ∷ values) = Unit {0}

-- at least two members
abbrev pub AreTwo : Conditions → Type 0
AreTwo none = ⊥
AreTwo (more t none) = ⊥
AreTwo (more t (more u ts)) = Unit {0}

-- whether a condition is an `and`
abbrev pub is_both : Condition → Bool
is_both (Both ts) = true
is_both (Either ts) = false
is_both (Negate t) = false
is_both (Test column how value) = false
is_both (Same left right) = false
is_both (Between column low high) = false
is_both (OneOf column values) = false

-- whether a condition is an `or`
abbrev pub is_either : Condition → Bool
is_either (Either ts) = true
is_either (Both ts) = false
is_either (Negate t) = false
is_either (Test column how value) = false
is_either (Same left right) = false
is_either (Between column low high) = false
is_either (OneOf column values) = false

-- each `and` and each `or` has two members at least and none of its own kind, and each list
-- of literals one at least
abbrev mutual
  -- a condition is so
  pub IsTree : Condition → Type 0
  IsTree (Either ts) = AreTwo ts × AreTrees is_either ts
  IsTree (Both ts) = AreTwo ts × AreTrees is_both ts
  IsTree (Negate t) = IsTree t
  IsTree (Test column how value) = Unit {0}
  IsTree (Same left right) = Unit {0}
  IsTree (Between column low high) = Unit {0}
  IsTree (OneOf column values) = IsNonempty values

  -- all are trees, and none is of this kind
  pub AreTrees : (Condition → Bool) → Conditions → Type 0
  AreTrees kind none = Unit {0}
  AreTrees kind (more t ts) = (kind t ≡ false) × IsTree t × AreTrees kind ts

-- a condition that is there is a tree
abbrev pub IsTreeWhere : Option Condition → Type 0
IsTreeWhere None = Unit {0}
IsTreeWhere (Some t) = IsTree t

-- no column has a reference
abbrev pub HaveNoTargets : List AstColumn → Type 0
HaveNoTargets [] = Unit {0}
HaveNoTargets (column ∷ columns) = (column.references ≡ None) × HaveNoTargets columns

-- lists have the members that the grammar asks for, and trees are trees
abbrev pub IsShaped : Statement → Type 0
IsShaped (Dimension name columns) = IsNonempty columns × HaveNoTargets columns
IsShaped (Fact name columns) = IsNonempty columns
IsShaped (Load name header) = Unit {0}
IsShaped (Delete name condition) = IsTreeWhere condition
IsShaped (Select its_items tables condition groups) =
    IsNonempty its_items × IsNonempty tables × IsTreeWhere condition
IsShaped Wait = Unit {0}

-- a statement that some line says: its lists and trees have their shapes, each of its names is a
-- name and each of its values a literal, and its printed line is within the limits
pub record CanBeWritten (meaning : Statement) : Type 0 where
  pub shaped : IsShaped meaning
  pub writable : All IsWritable (statement_symbols meaning)
  pub within : ¬ (IsOverLimit (printed meaning))
