-- A literal as the code holds it.
use Rattle.star_values.specs.declared.value.Value.{Value}
use Rattle.star_parser.specs.declared.tree.Column.{Column}
use Rattle.star_binder.specs.declared.named.Literal.{Literal}

-- a literal with the column beside it
abbrev pub literal_of : Literal → Column × Value
literal_of literal = (literal.column.now, literal.value.now)
