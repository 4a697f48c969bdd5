-- Forms, the words that the grammar is written in. A form says which lists of symbols
-- are of it, and what each stands for. A list may be cut into the parts of a form in any
-- way, so a form is no reader.
use Rattle.std.specs.Prelude.{◌≡◌, ◌⊎◌, ℕ, List, [], ◌∷◌, ◌++◌}
use Rattle.star_values.specs.declared.value.Value.{Value}
use Rattle.star_lexer.specs.declared.keyword.Keyword.{Keyword}
use Rattle.star_lexer.specs.declared.sign.Sign.{Sign}
use Rattle.star_lexer.specs.declared.symbol.Symbol.{Symbol}
use Rattle.star_lexer.specs.declared.symbol.Symbol.TheVariants as symbol

-- which lists of symbols are of the form, and what each stands for
abbrev pub Form : Type 0 → Type 1
Form A = List Symbol → A → Type 0

-- nothing, which stands for a value
abbrev pub stands_for : {A : Type 0} → A → Form A
stands_for value symbols meaning = (symbols ≡ []) × (meaning ≡ value)

-- nothing, which stands for nothing
abbrev pub nothing : Form (Unit {0})
nothing = stands_for tt

-- one symbol
abbrev pub one_symbol : Symbol → Form (Unit {0})
one_symbol s symbols meaning = symbols ≡ s ∷ []

-- a keyword
abbrev pub word : Keyword → Form (Unit {0})
word k = one_symbol (symbol.Keyword k)

-- a sign
abbrev pub sign : Sign → Form (Unit {0})
sign s = one_symbol (symbol.Sign s)

-- a name, which stands for its letters
abbrev pub name : Form (List ℕ)
name symbols meaning = symbols ≡ symbol.Name meaning ∷ []

-- a literal, which stands for its value
abbrev pub literal : Form Value
literal symbols meaning = symbols ≡ symbol.Literal meaning ∷ []

infixl 10 ◌>>=◌
-- a front of the first form, and behind it one of the second, which may depend on
-- what the front stands for
abbrev pub ◌>>=◌ : {A B : Type 0} → Form A → (A → Form B) → Form B
(first >>= second) symbols meaning =
    (front back : List Symbol) × (value : _) × (symbols ≡ front ++ back) × first front value
    × second value back meaning

infixl 10 ◌>>◌
-- a front of the first form, and behind it one of the second, which the whole stands for
abbrev pub ◌>>◌ : {A B : Type 0} → Form A → Form B → Form B
first >> second = first >>= λ _. second

infixr 5 ◌or◌
-- one form or the other
abbrev pub ◌or◌ : {A : Type 0} → Form A → Form A → Form A
(first or second) symbols meaning = first symbols meaning ⊎ second symbols meaning

-- one or more of the form, with the symbol between each two
abbrev pub separated : {A : Type 0} → Symbol → Form A → List Symbol → List A → Type 0
separated separator member symbols [] = ⊥
separated separator member symbols (value ∷ []) = member symbols value
separated separator member symbols (value ∷ next ∷ values) =
    (front back : List Symbol) × (symbols ≡ front ++ separator ∷ back) × member front value
    × separated separator member back (next ∷ values)
