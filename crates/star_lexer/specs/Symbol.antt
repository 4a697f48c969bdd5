-- Which symbols are a line.
use Rattle.std.specs.Prelude.{ℕ, ◌+◌, ◌-◌, ◌==◌, List, [], ◌∷◌, map, take, drop, get_or, Option, if◌then◌else◌}
use Rattle.std.specs.Option.{option_map_or}
use Rattle.std.specs.Char.{to_ascii_lowercase}
use Rattle.star_values.specs.declared.value.Value.TheVariants as value
use Rattle.star_lexer.specs.declared.token.Lexeme.{Lexeme}
use Rattle.star_lexer.specs.declared.token.Lexeme.TheVariants as lexeme
use Rattle.star_lexer.specs.declared.token.Token.{Token}
use Rattle.star_lexer.specs.Line.{lexed}
use Rattle.star_lexer.specs.declared.sign.Sign.{Sign}
use Rattle.star_lexer.specs.declared.sign.Sign.TheVariants as sign
use Rattle.star_lexer.specs.declared.symbol.Symbol.{Symbol}
use Rattle.star_lexer.specs.declared.symbol.Symbol.TheVariants as symbol
use Rattle.star_lexer.specs.Keyword.{keyword_of}

-- the symbols of a line, the place of the first byte of each, and the place where no
-- further token can be read
pub record Symbolic : Type 0 where
  pub symbols : List Symbol
  pub places : List ℕ
  pub bad : Option ℕ

-- the bytes of a token in its line
abbrev pub token_bytes : List ℕ → Token → List ℕ
token_bytes line token = take (token.last + 1 - token.first) (drop token.first line)

-- a keyword, or the name that the word is in lower case
abbrev pub word_symbol : List ℕ → Symbol
word_symbol word =
    let name =
    map to_ascii_lowercase word in
    option_map_or symbol.Keyword (keyword_of name) (symbol.Name name)

-- the content of a text from behind its first quote: a doubled quote is one, and the
-- quote that ends it is none
abbrev pub content : List ℕ → List ℕ
content [] = []
content (byte ∷ []) = if byte == 39 then [] else (byte ∷ [])
content (byte ∷ next ∷ bytes) =
    if byte == 39 then (if next == 39 then (39 ∷ content bytes) else [])
    else (byte ∷ content (next ∷ bytes))

-- the signs in the order of their numbers as tokens, where `<>` and `!=` are two
abbrev pub numbered_signs : List Sign
numbered_signs =
    sign.Open ∷ sign.Close ∷ sign.Comma ∷ sign.Dot ∷ sign.Semicolon ∷ sign.Star ∷ sign.Equal
    ∷ sign.NotEqual ∷ sign.NotEqual
    ∷ sign.Less ∷ sign.LessOrEqual ∷ sign.Greater ∷ sign.GreaterOrEqual ∷ []

-- what a token of these bytes stands for
abbrev pub symbol_from : List ℕ → Lexeme → Symbol
symbol_from bytes lexeme.Word = word_symbol bytes
symbol_from bytes (lexeme.Integer n) = symbol.Literal (value.Int n)
symbol_from bytes lexeme.Text = symbol.Literal (value.Str (content (drop 1 bytes)))
symbol_from bytes (lexeme.Sign number) = symbol.Sign (get_or numbered_signs number sign.Open)

-- what a token of a line stands for
abbrev pub symbol_of : List ℕ → Token → Symbol
symbol_of line token = symbol_from (token_bytes line token) token.what

-- the symbols of a line, up to its end or to the first place where no token can be read
abbrev pub symbols_of : List ℕ → List Symbol
symbols_of line = map (symbol_of line) (lexed line).tokens

-- the same with their places
abbrev pub symbolic : List ℕ → Symbolic
symbolic line =
    record {
      symbols = symbols_of line;
      places = map (λ token. token.first) (lexed line).tokens;
      bad = (lexed line).bad;
    }
