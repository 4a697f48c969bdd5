-- The tokens of a line.
use Rattle.std.specs.Prelude.{ℕ, zero, suc, ◌+◌, ◌-◌, Bool, ◌||◌, ◌==◌, List, [], ◌∷◌, Option, Some, None, if◌then◌else◌}
use Rattle.std.specs.Option.{option_map_or}
use Rattle.star_lexer.specs.declared.token.Lexeme.{Lexeme}
use Rattle.star_lexer.specs.declared.token.Token.{Token}
use Rattle.star_lexer.specs.Token.{token_at}

-- tokens in order, and the place where none can be read
pub record Lexed : Type 0 where
  pub tokens : List Token
  pub bad : Option ℕ

-- a space or a tab
abbrev pub is_blank : ℕ → Bool
is_blank byte = byte == 32 || byte == 9

-- a token that stands at a place and has so many bytes
abbrev pub token_of : ℕ → Lexeme × ℕ → Token
token_of place found = record { what = found.0; first = place; last = place + found.1 - 1 }

-- a token in front of others
abbrev pub put_first : Token → Lexed → Lexed
put_first token lexed = record { tokens = token ∷ lexed.tokens; bad = lexed.bad }

-- the tokens of bytes that begin at a place, where so many of them are still part of a token
abbrev pub lexed_in : ℕ → ℕ → List ℕ → Lexed
lexed_in place inside [] = record { tokens = []; bad = None }
lexed_in place (suc inside) (byte ∷ bytes) = lexed_in (suc place) inside bytes
lexed_in place zero (byte ∷ bytes) =
    if is_blank byte then lexed_in (suc place) 0 bytes
    else option_map_or (λ found.
    put_first (token_of place found) (lexed_in (suc place) (found.1 - 1) bytes))
    (token_at (byte ∷ bytes)) (record { tokens = []; bad = Some place })

-- the tokens of a line
abbrev pub lexed : List ℕ → Lexed
lexed line = lexed_in 0 0 line
