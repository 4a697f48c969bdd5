-- The readers of the grammar's forms. Private functions cite them; that they
-- read the forms is proved.
use Rattle.std.specs.Prelude.{ℕ, zero, suc, Bool, true, false, List, [], ◌∷◌, length, flat_map, Option, Some, None}
use Rattle.star_values.specs.declared.value.Value.{Value}
use Rattle.star_values.specs.declared.value.Kind.{Kind}
use Rattle.star_values.specs.declared.value.Kind.TheVariants as kinds
use Rattle.star_lexer.specs.declared.keyword.Keyword.TheVariants as key
use Rattle.star_lexer.specs.declared.sign.Sign.TheVariants as mark
use Rattle.star_lexer.specs.declared.symbol.Symbol.{Symbol}
use Rattle.star_parser.specs.declared.ast.AstColumn.{AstColumn}
use Rattle.star_parser.specs.declared.ast.AstItem.{AstItem}
use Rattle.star_parser.specs.declared.ast.AstItem.TheVariants as items
use Rattle.star_parser.specs.declared.tree.Column.{Column}
use Rattle.star_parser.specs.declared.tree.Relation.{Relation}
use Rattle.star_parser.specs.declared.tree.Relation.TheVariants as how
use Rattle.star_parser.specs.Reader.{Reader, gives, on, when, expect, is_word, is_sign, is_literal, name_at, literal_at, end_at, separated_at, ◌>>=◌, ◌>>◌}
use Rattle.star_parser.specs.Condition.{Condition, Either, Both, Negate, Test, Same, Between, OneOf, conjuncts, disjuncts, alone_or}
use Rattle.star_parser.specs.Statement.{Statement, Dimension, Fact, Load, Delete, Select, Wait}
use Rattle.star_parser.specs.Grammar.{column_of}

-- whether a symbol is a comma
abbrev pub is_comma : Symbol → Bool
is_comma = is_sign mark.Comma

-- what is read between parentheses
abbrev pub bracketed_at : {A : Type 0} → Reader A → Reader A
bracketed_at inner = do
  expect (is_sign mark.Open)
  value ← inner
  expect (is_sign mark.Close)
  gives value

-- "int" or "text"
abbrev pub kind_at : Reader Kind
kind_at = on (is_word key.Int) (gives kinds.Int) (expect (is_word key.Text) >> gives kinds.Text)

-- a name behind a dot, or nothing
abbrev pub dotted_at : Reader (Option (List ℕ))
dotted_at = on (is_sign mark.Dot) (name_at >>= λ second. gives (Some second)) (gives None)

-- a column, with or without the name of its table
unfoldable pub column_at : Reader Column
column_at = do
  first ← name_at
  second ← dotted_at
  gives (column_of first second)

-- "*" or a column
abbrev pub counted_column_at : Reader AstItem
counted_column_at =
    on (is_sign mark.Star) (gives items.CountAll) (column_at >>= λ c. gives (items.Count c))

-- what `count` counts, between parentheses
unfoldable pub counted_at : Reader AstItem
counted_at = bracketed_at counted_column_at

-- a column between parentheses
unfoldable pub bracketed_column_at : Reader Column
bracketed_column_at = bracketed_at column_at

-- the items one after the other, from the last on
abbrev pub plain_item_at : Reader AstItem
plain_item_at = column_at >>= λ c. gives (items.Plain c)

-- ... or behind "max" a column
abbrev pub max_item_at : Reader AstItem
max_item_at = on (is_word key.Max) (bracketed_column_at >>= λ c. gives (items.Max c)) plain_item_at

-- ... or behind "min" a column
abbrev pub min_item_at : Reader AstItem
min_item_at = on (is_word key.Min) (bracketed_column_at >>= λ c. gives (items.Min c)) max_item_at

-- ... or behind "sum" a column
abbrev pub sum_item_at : Reader AstItem
sum_item_at = on (is_word key.Sum) (bracketed_column_at >>= λ c. gives (items.Sum c)) min_item_at

-- an item of a select list
unfoldable pub item_at : Reader AstItem
item_at = on (is_word key.Count) counted_at sum_item_at

-- names, with a comma between each two
unfoldable pub names_at : Reader (List (List ℕ))
names_at = separated_at is_comma name_at

-- items, with a comma between each two
unfoldable pub items_at : Reader (List AstItem)
items_at = separated_at is_comma item_at

-- columns, with a comma between each two
unfoldable pub columns_at : Reader (List Column)
columns_at = separated_at is_comma column_at

-- literals, with a comma between each two
unfoldable pub literals_at : Reader (List Value)
literals_at = separated_at is_comma literal_at

-- the literal that the column is compared with
unfoldable pub compared_at : Column → Relation → Reader Condition
compared_at c how = literal_at >>= λ value. gives (Test c how value)

-- the literal or the column that the column is equal to
unfoldable pub equal_to_at : Column → Reader Condition
equal_to_at c = when is_literal (compared_at c how.Eq) (column_at >>= λ d. gives (Same c d))

-- the upper bound, behind "and"
unfoldable pub upper_bound_at : Reader Value
upper_bound_at = expect (is_word key.And) >> literal_at

-- the bounds behind "between"
unfoldable pub between_at : Column → Reader Condition
between_at c = do
  low ← literal_at
  high ← upper_bound_at
  gives (Between c low high)

-- the literals behind "in"
unfoldable pub bracketed_literals_at : Reader (List Value)
bracketed_literals_at = bracketed_at literals_at

-- the literals behind "in", between parentheses
unfoldable pub listed_at : Column → Reader Condition
listed_at c = bracketed_literals_at >>= λ values. gives (OneOf c values)

-- "between" with its bounds, or "in" with its literals
unfoldable pub ranged_at : Column → Reader Condition
ranged_at c = on (is_word key.Between) (between_at c) (expect (is_word key.In) >> listed_at c)

-- the same behind "not"
unfoldable pub not_ranged_at : Column → Reader Condition
not_ranged_at c = ranged_at c >>= λ t. gives (Negate t)

-- the tests of a column one after the other, from the last on
unfoldable pub ranged_test_at : Column → Reader Condition
ranged_test_at c = on (is_word key.Not) (not_ranged_at c) (ranged_at c)

-- ... or ">=" and a literal
abbrev pub greater_or_equal_at : Column → Reader Condition
greater_or_equal_at c = on (is_sign mark.GreaterOrEqual) (compared_at c how.Ge) (ranged_test_at c)

-- ... or ">" and a literal
abbrev pub greater_at : Column → Reader Condition
greater_at c = on (is_sign mark.Greater) (compared_at c how.Gt) (greater_or_equal_at c)

-- ... or "<=" and a literal
abbrev pub less_or_equal_at : Column → Reader Condition
less_or_equal_at c = on (is_sign mark.LessOrEqual) (compared_at c how.Le) (greater_at c)

-- ... or "<" and a literal
unfoldable pub ordered_at : Column → Reader Condition
ordered_at c = on (is_sign mark.Less) (compared_at c how.Lt) (less_or_equal_at c)

-- ... or "<>" and a literal
abbrev pub not_equal_at : Column → Reader Condition
not_equal_at c = on (is_sign mark.NotEqual) (compared_at c how.Ne) (ordered_at c)

-- what the column is tested by
unfoldable pub tested_at : Column → Reader Condition
tested_at c = on (is_sign mark.Equal) (equal_to_at c) (not_equal_at c)

-- a column and what it is tested by
unfoldable pub test_at : Reader Condition
test_at = column_at >>= tested_at

-- the members of an `and` or an `or`, from the reader of one
abbrev pub conjuncts_by : Reader Condition → Reader (List Condition)
conjuncts_by one = separated_at (is_word key.And) one >>= λ ts. gives (flat_map conjuncts ts)

-- an `and` of them, or the only one
abbrev pub all_by : Reader Condition → Reader Condition
all_by one = conjuncts_by one >>= λ ts. gives (alone_or Both ts)

-- the members of an `or`, each an `and` or a single one
abbrev pub disjuncts_by : Reader Condition → Reader (List Condition)
disjuncts_by one =
    separated_at (is_word key.Or) (all_by one) >>= λ ts. gives (flat_map disjuncts ts)

-- an `or` of them, or the only one
abbrev pub any_by : Reader Condition → Reader Condition
any_by one = disjuncts_by one >>= λ ts. gives (alone_or Either ts)

-- the readers of what may nest: fewer than so many `not` and parentheses around each other
unfoldable pub one_at : ℕ → Reader Condition
one_at zero = λ symbols. (None, symbols)
one_at (suc depth) =
    on (is_word key.Not) (one_at depth >>= λ t. gives (Negate t))
    (on (is_sign mark.Open)
    (any_by (one_at depth) >>= λ t. expect (is_sign mark.Close) >> gives t) test_at)

-- what stands behind "not"
abbrev pub negated_at : ℕ → Reader Condition
negated_at depth = one_at depth >>= λ t. gives (Negate t)

-- a condition behind "(", and ")"
abbrev pub closed_at : ℕ → Reader Condition
closed_at depth = any_by (one_at depth) >>= λ t. expect (is_sign mark.Close) >> gives t

-- a condition between parentheses, or a test
abbrev pub not_negated_at : ℕ → Reader Condition
not_negated_at depth = on (is_sign mark.Open) (closed_at depth) test_at

-- the members of an `and`
unfoldable pub conjuncts_at : ℕ → Reader (List Condition)
conjuncts_at depth = conjuncts_by (one_at depth)

-- an `and`, or its only member
unfoldable pub all_at : ℕ → Reader Condition
all_at depth = all_by (one_at depth)

-- the members of an `or`
unfoldable pub disjuncts_at : ℕ → Reader (List Condition)
disjuncts_at depth = disjuncts_by (one_at depth)

-- an `or`, or its only member
unfoldable pub any_at : ℕ → Reader Condition
any_at depth = any_by (one_at depth)

-- no more can nest than there are symbols
unfoldable pub condition_at : Reader Condition
condition_at symbols = any_at (suc (length symbols)) symbols

-- "where" with its condition, or nothing
unfoldable pub where_at : Reader (Option Condition)
where_at = on (is_word key.Where) (condition_at >>= λ t. gives (Some t)) (gives None)

-- "group by" with its columns, or nothing
unfoldable pub group_at : Reader (List Column)
group_at = on (is_word key.Group) (expect (is_word key.By) >> columns_at) (gives [])

-- a column of a declaration, with its kind
unfoldable pub plain_column_at : Reader AstColumn
plain_column_at = do
  column ← name_at
  its_kind ← kind_at
  gives (record { name = column; kind = its_kind; references = None })

-- such columns, with a comma between each two
unfoldable pub plain_columns_at : Reader (List AstColumn)
plain_columns_at = separated_at is_comma plain_column_at

-- the columns of a dimension behind its key
unfoldable pub other_columns_at : Reader (List AstColumn)
other_columns_at = on is_comma plain_columns_at (gives [])

-- the key of a dimension, and then its other columns
unfoldable pub dimension_columns_at : Reader (List AstColumn)
dimension_columns_at = do
  first ← plain_column_at
  expect (is_word key.Key)
  others ← other_columns_at
  gives (first ∷ others)

-- "references" with the name of a dimension, or nothing
unfoldable pub target_at : Reader (Option (List ℕ))
target_at =
    on (is_word key.References) (name_at >>= λ dimension. gives (Some dimension)) (gives None)

-- a column of a fact table, with its kind and what it references
unfoldable pub fact_column_at : Reader AstColumn
fact_column_at = do
  column ← name_at
  its_kind ← kind_at
  target ← target_at
  gives (record { name = column; kind = its_kind; references = target })

-- such columns, with a comma between each two
unfoldable pub fact_columns_at : Reader (List AstColumn)
fact_columns_at = separated_at is_comma fact_column_at

-- a dimension, behind "dimension"
unfoldable pub dimension_at : Reader Statement
dimension_at = do
  table ← name_at
  columns ← bracketed_at dimension_columns_at
  gives (Dimension table columns)

-- a fact table, behind "fact"
unfoldable pub fact_at : Reader Statement
fact_at = do
  table ← name_at
  columns ← bracketed_at fact_columns_at
  gives (Fact table columns)

-- whether "header" stands there
unfoldable pub header_at : Reader Bool
header_at = on (is_word key.Header) (gives true) (gives false)

-- a load, behind "load"
unfoldable pub load_at : Reader Statement
load_at = do
  table ← name_at
  header ← header_at
  gives (Load table header)

-- a delete, behind "delete"
unfoldable pub delete_at : Reader Statement
delete_at = do
  expect (is_word key.From)
  table ← name_at
  kept_out ← where_at
  gives (Delete table kept_out)

-- a select, behind "select"
unfoldable pub select_at : Reader Statement
select_at = do
  its_items ← items_at
  expect (is_word key.From)
  tables ← names_at
  kept ← where_at
  groups ← group_at
  gives (Select its_items tables kept groups)

-- the statements one after the other, from the last on
abbrev pub wait_at : Reader Statement
wait_at = expect (is_word key.Wait) >> gives Wait

-- ... or "select"
abbrev pub from_select_at : Reader Statement
from_select_at = on (is_word key.Select) select_at wait_at

-- ... or "delete"
abbrev pub from_delete_at : Reader Statement
from_delete_at = on (is_word key.Delete) delete_at from_select_at

-- ... or "load"
abbrev pub from_load_at : Reader Statement
from_load_at = on (is_word key.Load) load_at from_delete_at

-- ... or "fact"
abbrev pub from_fact_at : Reader Statement
from_fact_at = on (is_word key.Fact) fact_at from_load_at

-- one of the six statements, behind its word
unfoldable pub statement_at : Reader Statement
statement_at = on (is_word key.Dimension) dimension_at from_fact_at

-- ";", or nothing
unfoldable pub semicolon_at : Reader (Unit {0})
semicolon_at = on (is_sign mark.Semicolon) (gives tt) (gives tt)

-- a statement and nothing more, but perhaps a semicolon
unfoldable pub sentence_at : Reader Statement
sentence_at = do
  meaning ← statement_at
  semicolon_at
  end_at
  gives meaning
