-- The grammar: which lists of symbols are statements, and what each stands for.
use Rattle.std.specs.Prelude.{ℕ, zero, suc, true, false, List, [], ◌∷◌, Option, Some, None}
use Rattle.star_values.specs.declared.value.Kind.{Kind}
use Rattle.star_values.specs.declared.value.Kind.TheVariants as kinds
use Rattle.star_lexer.specs.declared.keyword.Keyword.TheVariants as key
use Rattle.star_lexer.specs.declared.sign.Sign.TheVariants as mark
use Rattle.star_lexer.specs.declared.symbol.Symbol.{Symbol}
use Rattle.star_lexer.specs.declared.symbol.Symbol.TheVariants as symbol
use Rattle.star_parser.specs.declared.ast.AstColumn.{AstColumn}
use Rattle.star_parser.specs.declared.ast.AstItem.{AstItem}
use Rattle.star_parser.specs.declared.ast.AstItem.TheVariants as items
use Rattle.star_parser.specs.declared.tree.Column.{Column}
use Rattle.star_parser.specs.declared.tree.Relation.{Relation}
use Rattle.star_parser.specs.declared.tree.Relation.TheVariants as how
use Rattle.star_parser.specs.Form.{Form, stands_for, nothing, word, sign, name, literal, ◌>>=◌, ◌>>◌, ◌or◌, separated}
use Rattle.star_parser.specs.Condition.{Condition, Negate, Test, Same, Between, OneOf, both_of, either_of}
use Rattle.star_parser.specs.Statement.{Statement, Dimension, Fact, Load, Delete, Select, Wait}

-- what stands between the members of a list
abbrev pub comma : Symbol
comma = symbol.Sign mark.Comma

-- the form between parentheses
abbrev pub bracketed : {A : Type 0} → Form A → Form A
bracketed inner = do
  sign mark.Open
  value ← inner
  sign mark.Close
  stands_for value

-- "int" | "text"
abbrev pub kind : Form Kind
kind = (word key.Int >> stands_for kinds.Int) or (word key.Text >> stands_for kinds.Text)

-- a column alone, or one behind the name of its table
abbrev pub column_of : List ℕ → Option (List ℕ) → Column
column_of first None = record { table = None; name = first }
column_of first (Some second) = record { table = Some first; name = second }

-- name [ "." name ]
abbrev pub column : Form Column
column = do
  first ← name
  second ← (sign mark.Dot >> (name >>= λ second. stands_for (Some second))) or stands_for None
  stands_for (column_of first second)

-- "(" ( "*" | column ) ")"
abbrev pub counted : Form AstItem
counted =
    bracketed ((sign mark.Star >> stands_for items.CountAll) or (column >>= λ c.
    stands_for (items.Count c)))

-- column | "count" counted | ( "sum" | "min" | "max" ) "(" column ")"
abbrev pub item : Form AstItem
item =
    (word key.Count >> counted)
    or (word key.Sum >> (bracketed column >>= λ c. stands_for (items.Sum c)))
    or (word key.Min >> (bracketed column >>= λ c. stands_for (items.Min c)))
    or (word key.Max >> (bracketed column >>= λ c. stands_for (items.Max c)))
    or (column >>= λ c. stands_for (items.Plain c))

-- a literal that the column is compared with
abbrev pub compared : Column → Relation → Form Condition
compared c how = literal >>= λ value. stands_for (Test c how value)

-- a literal or a column that the column is equal to
abbrev pub equal_to : Column → Form Condition
equal_to c =
    (literal >>= λ value. stands_for (Test c how.Eq value))
    or (column >>= λ d. stands_for (Same c d))

-- "between" literal "and" literal | "in" "(" literal { "," literal } ")"
abbrev pub ranged : Column → Form Condition
ranged c =
    (word key.Between
    >> (literal >>= λ low. word key.And >> (literal >>= λ high. stands_for (Between c low high))))
    or (word key.In
    >> (bracketed (separated comma literal) >>= λ values. stands_for (OneOf c values)))

-- column "=" ( literal | column ) | column compare literal | column [ "not" ] ranged
abbrev pub test : Form Condition
test = do
  c ← column
  (sign mark.Equal >> equal_to c)
      or (sign mark.NotEqual >> compared c how.Ne)
      or (sign mark.Less >> compared c how.Lt)
      or (sign mark.LessOrEqual >> compared c how.Le)
      or (sign mark.Greater >> compared c how.Gt)
      or (sign mark.GreaterOrEqual >> compared c how.Ge)
      or (word key.Not >> (ranged c >>= λ t. stands_for (Negate t)))
      or ranged c

-- one { "and" one }
abbrev pub all_of : Form Condition → Form Condition
all_of one = separated (symbol.Keyword key.And) one >>= λ ts. stands_for (both_of ts)

-- all { "or" all }
abbrev pub any_of : Form Condition → Form Condition
any_of one = separated (symbol.Keyword key.Or) (all_of one) >>= λ ts. stands_for (either_of ts)

-- "not" one | "(" any ")" | test, with at most so many `not` and parentheses around each other
abbrev pub one_within : ℕ → Form Condition
one_within zero = test
one_within (suc depth) =
    (word key.Not >> (one_within depth >>= λ t. stands_for (Negate t)))
    or bracketed (any_of (one_within depth))
    or test

-- any, to any depth
abbrev pub condition : Form Condition
condition symbols meaning = (depth : ℕ) × any_of (one_within depth) symbols meaning

-- [ "where" any ]
abbrev pub where_part : Form (Option Condition)
where_part = (word key.Where >> (condition >>= λ t. stands_for (Some t))) or stands_for None

-- [ "group" "by" column { "," column } ]
abbrev pub group_part : Form (List Column)
group_part = (word key.Group >> (word key.By >> separated comma column)) or stands_for []

-- name kind
abbrev pub plain_column : Form AstColumn
plain_column = do
  column ← name
  its_kind ← kind
  stands_for (record { name = column; kind = its_kind; references = None })

-- name kind "key" { "," name kind }
abbrev pub dimension_columns : Form (List AstColumn)
dimension_columns = do
  first ← plain_column
  word key.Key
  others ← (sign mark.Comma >> separated comma plain_column) or stands_for []
  stands_for (first ∷ others)

-- name kind [ "references" name ]
abbrev pub fact_column : Form AstColumn
fact_column = do
  column ← name
  its_kind ← kind
  target ← (word key.References >> (name >>= λ dimension. stands_for (Some dimension)))
      or stands_for None
  stands_for (record { name = column; kind = its_kind; references = target })

-- name "(" dimension_columns ")"
abbrev pub dimension : Form Statement
dimension = do
  table ← name
  columns ← bracketed dimension_columns
  stands_for (Dimension table columns)

-- name "(" fact_column { "," fact_column } ")"
abbrev pub fact : Form Statement
fact = do
  table ← name
  columns ← bracketed (separated comma fact_column)
  stands_for (Fact table columns)

-- name [ "header" ]
abbrev pub load : Form Statement
load = do
  table ← name
  header ← (word key.Header >> stands_for true) or stands_for false
  stands_for (Load table header)

-- "from" name [ "where" any ]
abbrev pub delete : Form Statement
delete = do
  word key.From
  table ← name
  kept_out ← where_part
  stands_for (Delete table kept_out)

-- item { "," item } "from" name { "," name } [ "where" any ] [ "group" "by" column { "," column } ]
abbrev pub select : Form Statement
select = do
  its_items ← separated comma item
  word key.From
  tables ← separated comma name
  kept ← where_part
  groups ← group_part
  stands_for (Select its_items tables kept groups)

-- one of the six statements, each behind its word
abbrev pub statement : Form Statement
statement =
    (word key.Dimension >> dimension)
    or (word key.Fact >> fact)
    or (word key.Load >> load)
    or (word key.Delete >> delete)
    or (word key.Select >> select)
    or (word key.Wait >> stands_for Wait)

-- statement [ ";" ]
abbrev pub sentence : Form Statement
sentence = do
  meaning ← statement
  (sign mark.Semicolon >> nothing) or nothing
  stands_for meaning
