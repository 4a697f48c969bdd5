-- When a reader reads a form.
use Rattle.std.specs.Prelude.{◌≡◌, Bool, false, List, [], ◌∷◌, ◌++◌, Option, Some, None, IfSome, IfNone}
use Rattle.star_lexer.specs.declared.symbol.Symbol.{Symbol}
use Rattle.star_parser.specs.Form.{Form}
use Rattle.star_parser.specs.Reader.{ReaderOutcome, begins}

-- the first of a list, where it has one
abbrev pub first_of : List Symbol → Option Symbol
first_of [] = None
first_of (s ∷ symbols) = Some s

-- A form was read, or a symbol did not fit: the symbols before it are a front of what is of
-- the form, and nothing that begins with them and that symbol is. Where what was read may go
-- on by some symbols, other readings end before one of them. The forms found and known differ
-- only in how deep they may nest.
pub record Reads {A : Type 0} (found known : Form A) (extends : Symbol → Bool)
    (symbols : List Symbol) (outcome : ReaderOutcome A) : Type 0 where
  pub used : List Symbol
  pub whole : symbols ≡ used ++ outcome.1
  pub read : IfSome outcome.0 (found used)
  pub only : (other front back : List Symbol) (value : A) → first_of other ≡ first_of outcome.1
      → used ++ other ≡ front ++ back → known front value → begins extends back ≡ false
      → (outcome.0 ≡ Some value) × (back ≡ other)
  pub begun : IfNone outcome.0 ((more : List Symbol) × (value : A) × found (used ++ more) value)

-- something is of the form
abbrev pub IsInhabited : {A : Type 0} → Form A → Type 0
IsInhabited {A = A} form = (symbols : List Symbol) × (value : A) × form symbols value
