-- What the private functions that read a line pass on to each other.
use Rattle.std.specs.Prelude.{◌≡◌, ℕ, ◌+◌, ◌-◌, ◌<◌, ◌≤◌, Bool, true, not, ◌&&◌, ◌||◌, ◌==◌, List, [], ◌∷◌, length, take, drop, Some, All, IsUtf8, if◌then◌else◌}
use Rattle.std.specs.List.{list_all, list_any}
use Rattle.star_lexer.specs.declared.token.Token.{Token}
use Rattle.star_lexer.specs.Token.{begins_word, is_word_byte, token_at}

-- the token stands in the line, and is what can be read at its place
pub record IsReadIn (line : List ℕ) (token : Token) : Type 0 where
  pub ordered : token.first ≤ token.last
  pub within : token.last < length line
  pub read : token_at (drop token.first line) ≡ Some (token.what, token.last + 1 - token.first)

-- a letter or underscore, then letters, digits and underscores
pub record IsWord (bytes : List ℕ) : Type 0 where
  pub begins : list_any begins_word (take 1 bytes) ≡ true
  pub goes_on : list_all is_word_byte bytes ≡ true

-- UTF-8 without a byte below 0x20: a text that a table may hold, where it is not too long
pub record IsPlain (bytes : List ℕ) : Type 0 where
  pub printable : All (λ byte. 32 ≤ byte) bytes
  pub utf8 : IsUtf8 bytes

-- the content of a text as it is found byte by byte, where the byte in front may be a
-- quote that ends the text
abbrev pub content_from : Bool → List ℕ → List ℕ
content_from quoted [] = []
content_from quoted (byte ∷ bytes) =
    if quoted && not (byte == 39) then []
    else (if quoted || not (byte == 39) then (byte ∷ content_from (not quoted && byte == 39) bytes)
    else content_from (not quoted && byte == 39) bytes)
