-- A line is its tokens with spaces and tabs between, said once more without
-- the recursion that cuts it.
use Rattle.std.specs.Prelude.{◌≡◌, ℕ, ◌+◌, ◌-◌, ◌<◌, ◌≤◌, true, List, [], ◌∷◌, length, take, drop, Option, Some, None}
use Rattle.std.specs.List.{list_all}
use Rattle.star_lexer.specs.declared.lexeme.NextToken.{NextToken}
use Rattle.star_lexer.specs.declared.lexeme.NextToken.TheVariants as next
use Rattle.star_lexer.specs.declared.token.Token.{Token}
use Rattle.star_lexer.specs.Token.{token_at}
use Rattle.star_lexer.specs.Line.{is_blank}

-- the first so many bytes are blanks
abbrev pub BeginsBlank : ℕ → List ℕ → Type 0
BeginsBlank count bytes = list_all is_blank (take count bytes) ≡ true

-- of bytes that begin at a place: behind blanks, no token can be read there
pub record IsBadAt (place : ℕ) (bytes : List ℕ) (bad : ℕ) : Type 0 where
  pub behind : place ≤ bad
  pub within : bad < place + length bytes
  pub blanks : BeginsBlank (bad - place) bytes
  pub unread : token_at (drop (bad - place) bytes) ≡ None

-- the same, and a token stands there, which has at least one byte
pub record IsTokenAt (place : ℕ) (bytes : List ℕ) (token : Token) : Type 0 where
  pub behind : place ≤ token.first
  pub ordered : token.first ≤ token.last
  pub within : token.last < place + length bytes
  pub blanks : BeginsBlank (token.first - place) bytes
  pub longest : token_at (drop (token.first - place) bytes)
      ≡ Some (token.what, token.last + 1 - token.first)

-- bytes that begin at a place are the tokens with blanks between, up to the bad place or their end:
-- each token stands behind the one before it
abbrev pub AreSpaced : ℕ → List ℕ → List Token → Option ℕ → Type 0
AreSpaced place bytes [] None = BeginsBlank (length bytes) bytes
AreSpaced place bytes [] (Some bad) = IsBadAt place bytes bad
AreSpaced place bytes (token ∷ tokens) bad =
    IsTokenAt place bytes token
    × AreSpaced (token.last + 1) (drop (token.last + 1 - place) bytes) tokens bad

-- what comes next is behind blanks
abbrev pub IsSpacedNext : ℕ → List ℕ → NextToken → Type 0
IsSpacedNext place bytes next.End = BeginsBlank (length bytes) bytes
IsSpacedNext place bytes (next.Bad bad) = IsBadAt place bytes bad
IsSpacedNext place bytes (next.Token token) = IsTokenAt place bytes token
