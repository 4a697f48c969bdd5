-- How symbols are written in a line, and which symbols can be.
use Rattle.std.specs.Prelude.{flat_map, ◌≡◌, ℕ, Bool, true, ◌||◌, ◌==◌, List, [], ◌∷◌, ◌++◌, take, None, FitsSigned}
use Rattle.std.specs.Int.{w64}
use Rattle.std.specs.Char.{is_ascii_lowercase, is_ascii_digit}
use Rattle.std.specs.List.{list_all, list_any}
use Rattle.star_values.specs.declared.value.Value.TheVariants as value
use Rattle.star_values.specs.SmallText.{IsSmallText}
use Rattle.star_values.specs.Value.{value_text}
use Rattle.star_lexer.specs.declared.symbol.Symbol.{Symbol}
use Rattle.star_lexer.specs.declared.symbol.Symbol.TheVariants as symbol
use Rattle.star_lexer.specs.Keyword.{keyword_text, keyword_of}
use Rattle.star_lexer.specs.Sign.{sign_text}

-- how a symbol is written: keywords and names in lower case, a text between quotes
abbrev pub symbol_text : Symbol → List ℕ
symbol_text (symbol.Keyword k) = keyword_text k
symbol_text (symbol.Name name) = name
symbol_text (symbol.Literal value) = value_text value
symbol_text (symbol.Sign s) = sign_text s

-- how symbols are written: in order, with one space between
abbrev pub line_of : List Symbol → List ℕ
line_of [] = []
line_of (s ∷ []) = symbol_text s
line_of (s ∷ t ∷ more) = symbol_text s ++ 32 ∷ line_of (t ∷ more)

-- how symbols are written behind another one
abbrev pub spaced_text : List Symbol → List ℕ
spaced_text symbols = flat_map (λ s. 32 ∷ symbol_text s) symbols

-- a lower-case letter or underscore
abbrev pub begins_name : ℕ → Bool
begins_name byte = is_ascii_lowercase byte || byte == 95

-- a lower-case letter, a digit or an underscore
abbrev pub is_name_byte : ℕ → Bool
is_name_byte byte = begins_name byte || is_ascii_digit byte

-- a lower-case letter or underscore, then lower-case letters, digits and
-- underscores, and together no keyword
pub record IsName (bytes : List ℕ) : Type 0 where
  pub begins : list_any begins_name (take 1 bytes) ≡ true
  pub goes_on : list_all is_name_byte bytes ≡ true
  pub free : keyword_of bytes ≡ None

-- a symbol whose text is read as that symbol: a name is a name, an integer has 64 bits, and
-- a text is one of a table
abbrev pub IsWritable : Symbol → Type 0
IsWritable (symbol.Keyword k) = Unit {0}
IsWritable (symbol.Name name) = IsName name
IsWritable (symbol.Literal (value.Int n)) = FitsSigned w64 n
IsWritable (symbol.Literal (value.Str text)) = IsSmallText text
IsWritable (symbol.Sign s) = Unit {0}
