-- Which lines are statements, and the place where a line stops being the front of one.
use Rattle.std.specs.Prelude.{◌≡◌, ◌⊎◌, ℕ, suc, ◌-◌, ◌==◌, ◌<◌, if◌then◌else◌, unwrap_or, List, ◌++◌, length, take, slice_index, Some, None, Result, Ok, Err}
use Rattle.star_lexer.specs.declared.symbol.Symbol.{Symbol}
use Rattle.star_lexer.specs.Symbol.{Symbolic, symbolic}
use Rattle.star_parser.specs.declared.ast.Ast.{Ast}
use Rattle.star_parser.specs.declared.fault.ParseFault.{ParseFault}
use Rattle.star_parser.specs.declared.fault.ParseFault.TheVariants.{Limit, Syntax, Memory}
use Rattle.star_parser.specs.Statement.{Statement, statement_of}
use Rattle.star_parser.specs.Grammar.{sentence}

-- all bytes of a line are in its symbols, and these are a sentence of the grammar
abbrev pub IsSentenceOf : Symbolic → Statement → Type 0
IsSentenceOf line meaning = (line.bad ≡ None) × sentence line.symbols meaning

-- some sentence begins with the symbols
abbrev pub BeginsSentence : List Symbol → Type 0
BeginsSentence symbols =
    (more : List Symbol) × (meaning : Statement) × sentence (symbols ++ more) meaning

-- no sentence begins with the symbols up to this one, and some sentence does with those before it
abbrev pub StopsAtSymbol : Symbolic → ℕ → Type 0
StopsAtSymbol line place =
    (count : ℕ) × (count < length line.symbols) × BeginsSentence (take count line.symbols)
    × (BeginsSentence (take (suc count) line.symbols) → ⊥)
    × (place ≡ slice_index line.places count)

-- some sentence begins with the symbols, and behind them no token can be read
abbrev pub StopsAtToken : Symbolic → ℕ → Type 0
StopsAtToken line place = BeginsSentence line.symbols × (line.bad ≡ Some place)

-- some sentence begins with the symbols, and they are none yet
abbrev pub StopsAtEnd : Symbolic → ℕ → ℕ → Type 0
StopsAtEnd line end place =
    BeginsSentence line.symbols × (line.bad ≡ None)
    × ((meaning : Statement) → sentence line.symbols meaning → ⊥) × (place ≡ end)

-- the first place where the line of so many bytes is the front of no sentence
abbrev pub IsStopOf : Symbolic → ℕ → ℕ → Type 0
IsStopOf line end place =
    StopsAtSymbol line place ⊎ (StopsAtToken line place ⊎ StopsAtEnd line end place)

-- a line is a statement that stands for this
abbrev pub IsSentence : List ℕ → Statement → Type 0
IsSentence line meaning = IsSentenceOf (symbolic line) meaning

-- the first place where a line is the front of no statement
abbrev pub IsStop : List ℕ → ℕ → Type 0
IsStop line place = IsStopOf (symbolic line) (length line) place

-- the answer is this statement, unless memory ran out
abbrev pub Answers : Statement → Result Ast ParseFault → Type 0
Answers meaning (Ok ast) = statement_of ast ≡ meaning
Answers meaning (Err Memory) = Unit {0}
Answers meaning (Err Limit) = ⊥
Answers meaning (Err (Syntax place)) = ⊥

-- the place of the symbol with so many symbols from it on, or else of what
-- stands behind all of them
abbrev pub place_of : Symbolic → ℕ → ℕ → ℕ
place_of line left end =
    if left == 0 then unwrap_or line.bad end
    else slice_index line.places (length line.places - left)
