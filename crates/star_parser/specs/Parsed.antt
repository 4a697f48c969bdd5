-- What a line is, as a function that computes. That it says what the grammar and
-- the limits say is proved.
use Rattle.std.specs.Prelude.{◌≡◌, ℕ, List, length, if◌then◌else◌, Some, None, Result, Ok, Err}
use Rattle.std.specs.Option.{option_map_or}
use Rattle.star_lexer.specs.Limits.{is_over_limit}
use Rattle.star_lexer.specs.Symbol.{Symbolic, symbolic}
use Rattle.star_parser.specs.declared.ast.Ast.{Ast}
use Rattle.star_parser.specs.declared.fault.ParseFault.{ParseFault}
use Rattle.star_parser.specs.declared.fault.ParseFault.TheVariants.{Limit, Syntax, Memory}
use Rattle.star_parser.specs.Statement.{Statement, statement_of}
use Rattle.star_parser.specs.Reader.{ReaderOutcome}
use Rattle.star_parser.specs.Reading.{sentence_at}
use Rattle.star_parser.specs.Sentence.{place_of}

-- over a limit, or the front of no statement from a place on, or a statement
pub data Parsed : Type 0 where
  Over : Parsed
  Stopped : ℕ → Parsed
  Means : Statement → Parsed

-- what a line of these symbols and so many bytes is, by the reading of its symbols
abbrev pub parsed_by : Symbolic → ℕ → ReaderOutcome Statement → Parsed
parsed_by line end (Some meaning, rest) = option_map_or Stopped line.bad (Means meaning)
parsed_by line end (None, rest) = Stopped (place_of line (length rest) end)

-- what a line is
unfoldable pub parsed_of : List ℕ → Parsed
parsed_of line =
    if is_over_limit line then Over
    else parsed_by (symbolic line) (length line) (sentence_at (symbolic line).symbols)

-- the answer says what the line is, unless memory ran out
abbrev pub IsParsed : Result Ast ParseFault → Parsed → Type 0
IsParsed (Ok ast) parsed = parsed ≡ Means (statement_of ast)
IsParsed (Err Limit) parsed = parsed ≡ Over
IsParsed (Err (Syntax place)) parsed = parsed ≡ Stopped place
IsParsed (Err Memory) parsed = Unit {0}
