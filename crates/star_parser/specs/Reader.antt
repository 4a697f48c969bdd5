-- How symbols are read from the front, in the words of the functions that do it.
use Rattle.std.specs.Prelude.{◌≡◌, ℕ, zero, suc, Bool, true, false, List, [], ◌∷◌, ◌++◌, length, Option, Some, None, if◌then◌else◌, Result, Ok, Err}
use denote.Enum.Bare.{sameb}
use Rattle.star_values.specs.declared.value.Value.{Value}
use Rattle.star_lexer.specs.contracts.sign.Sign as sign_type
use Rattle.star_lexer.specs.contracts.keyword.Keyword as keyword_type
use Rattle.star_lexer.specs.declared.keyword.Keyword.{Keyword}
use Rattle.star_lexer.specs.declared.sign.Sign.{Sign}
use Rattle.star_lexer.specs.declared.symbol.Symbol.{Symbol}
use Rattle.star_lexer.specs.declared.symbol.Symbol.TheVariants as symbol
use Rattle.star_parser.specs.declared.parser.Stop.{Stop}
use Rattle.star_parser.specs.declared.parser.Stop.TheVariants.{Memory, Unfit}

-- what was read, or nothing where a symbol does not fit, and the symbols from there on
abbrev pub ReaderOutcome : Type 0 → Type 0
ReaderOutcome A = Option A × List Symbol

-- what is read from the front of these symbols
abbrev pub Reader : Type 0 → Type 0
Reader A = List Symbol → ReaderOutcome A

-- a value, with no symbol taken
abbrev pub gives : {A : Type 0} → A → Reader A
gives value symbols = (Some value, symbols)

-- what the second reads behind a first outcome, unless that is nothing
abbrev pub bind : {A B : Type 0} → ReaderOutcome A → (A → Reader B) → ReaderOutcome B
bind (Some value, rest) second = second value rest
bind (None, rest) second = (None, rest)

infixl 10 ◌>>=◌
-- one reader, and behind it another, which may depend on what the first read
abbrev pub ◌>>=◌ : {A B : Type 0} → Reader A → (A → Reader B) → Reader B
(first >>= second) symbols = bind (first symbols) second

infixl 10 ◌>>◌
-- one reader, and behind it another
abbrev pub ◌>>◌ : {A B : Type 0} → Reader A → Reader B → Reader B
first >> second = first >>= λ _. second

-- whether the first symbol is one of these
abbrev pub begins : (Symbol → Bool) → List Symbol → Bool
begins test [] = false
begins test (s ∷ symbols) = test s

-- the symbols behind the first one where it is one of these, and else all
abbrev pub behind : (Symbol → Bool) → List Symbol → List Symbol
behind test [] = []
behind test (s ∷ symbols) = if test s then symbols else (s ∷ symbols)

-- whether a symbol is this keyword
abbrev pub is_word : Keyword → Symbol → Bool
is_word k (symbol.Keyword l) = sameb keyword_type.the_type l k
is_word k (symbol.Name n) = false
is_word k (symbol.Literal v) = false
is_word k (symbol.Sign s) = false

-- whether a symbol is this sign
abbrev pub is_sign : Sign → Symbol → Bool
is_sign s (symbol.Sign t) = sameb sign_type.the_type t s
is_sign s (symbol.Keyword k) = false
is_sign s (symbol.Name n) = false
is_sign s (symbol.Literal v) = false

-- whether a symbol is a literal
abbrev pub is_literal : Symbol → Bool
is_literal (symbol.Literal v) = true
is_literal (symbol.Keyword k) = false
is_literal (symbol.Name n) = false
is_literal (symbol.Sign s) = false

-- the one way where the first symbol is one of these, and else the other
abbrev pub on : {A : Type 0} → (Symbol → Bool) → Reader A → Reader A → Reader A
on test first second symbols =
    if begins test symbols then first (behind test symbols) else second symbols

-- the one way where the first symbol is one of these, which is still to be read, and else the other
abbrev pub when : {A : Type 0} → (Symbol → Bool) → Reader A → Reader A → Reader A
when test first second symbols = if begins test symbols then first symbols else second symbols

-- one of these symbols
abbrev pub expect : (Symbol → Bool) → Reader (Unit {0})
expect test [] = (None, [])
expect test (s ∷ symbols) = if test s then (Some tt, symbols) else (None, s ∷ symbols)

-- a name
abbrev pub name_at : Reader (List ℕ)
name_at [] = (None, [])
name_at (symbol.Name n ∷ symbols) = (Some n, symbols)
name_at (symbol.Keyword k ∷ symbols) = (None, symbol.Keyword k ∷ symbols)
name_at (symbol.Literal v ∷ symbols) = (None, symbol.Literal v ∷ symbols)
name_at (symbol.Sign s ∷ symbols) = (None, symbol.Sign s ∷ symbols)

-- a literal
abbrev pub literal_at : Reader Value
literal_at [] = (None, [])
literal_at (symbol.Literal v ∷ symbols) = (Some v, symbols)
literal_at (symbol.Keyword k ∷ symbols) = (None, symbol.Keyword k ∷ symbols)
literal_at (symbol.Name n ∷ symbols) = (None, symbol.Name n ∷ symbols)
literal_at (symbol.Sign s ∷ symbols) = (None, symbol.Sign s ∷ symbols)

-- nothing more
abbrev pub end_at : Reader (Unit {0})
end_at [] = (Some tt, [])
end_at (s ∷ symbols) = (None, s ∷ symbols)

-- one or more, with one of the separators between each two, and fewer than so many
abbrev pub separated_in : {A : Type 0} → (Symbol → Bool) → Reader A → ℕ → Reader (List A)
separated_in separator member zero = λ symbols. (None, symbols)
separated_in separator member (suc most) = member >>= λ value.
    on separator (separated_in separator member most >>= λ values. gives (value ∷ values))
    (gives (value ∷ []))

-- the same in any number, which is no greater than that of the symbols
abbrev pub separated_at : {A : Type 0} → (Symbol → Bool) → Reader A → Reader (List A)
separated_at separator member symbols = separated_in separator member (suc (length symbols)) symbols

-- values that were read before those of an outcome
abbrev pub with_front : {A : Type 0} → List A → ReaderOutcome (List A) → ReaderOutcome (List A)
with_front front (Some values, rest) = (Some (front ++ values), rest)
with_front front (None, rest) = (None, rest)

-- a function gave what reading gives, unless memory ran out: the value as it is seen, and
-- the symbols that are left
abbrev pub Gave : {X A : Type 0} → (X → A) → Result X Stop → List Symbol → ReaderOutcome A → Type 0
Gave view (Ok x) rest read = read ≡ (Some (view x), rest)
Gave view (Err Memory) rest read = Unit {0}
Gave view (Err Unfit) rest read = read ≡ (None, rest)
