-- What comes next in a line.
use Rattle.std.specs.Prelude.{◌≡◌, ℕ, ◌+◌, ◌-◌, ◌<◌, ◌≤◌, List, [], ◌++◌, length, drop, Some, None}
use Rattle.star_lexer.specs.declared.lexeme.NextToken.{NextToken}
use Rattle.star_lexer.specs.declared.lexeme.NextToken.TheVariants as next
use Rattle.star_lexer.specs.declared.token.Token.{Token}
use Rattle.star_lexer.specs.Line.{Lexed, lexed_in, put_first}

-- the tokens of bytes that begin at a place: none, none before a bad place, or one and then
-- those of the bytes behind it
abbrev pub IsNextToken : ℕ → List ℕ → NextToken → Type 0
IsNextToken place bytes next.End = lexed_in place 0 bytes ≡ record { tokens = []; bad = None }
IsNextToken place bytes (next.Bad bad) =
    lexed_in place 0 bytes ≡ record { tokens = []; bad = Some bad }
IsNextToken place bytes (next.Token token) =
    (lexed_in place 0 bytes
    ≡ put_first token (lexed_in (token.last + 1) 0 (drop (token.last + 1 - place) bytes)))
    × (place ≤ token.last) × (token.last < place + length bytes)

-- tokens in front of others
abbrev pub put_all : List Token → Lexed → Lexed
put_all tokens lexed = record { tokens = tokens ++ lexed.tokens; bad = lexed.bad }
