-- The limits of a line. Those on symbols look at the symbols before the first place
-- where no token can be read.
use Rattle.std.specs.Prelude.{◌≡◌, ◌⊎◌, ℕ, ◌+◌, ◌<◌, Bool, true, false, ◌||◌, ◌&&◌, nat_lt, List, [], ◌∷◌, ◌++◌, length, take, take_while, count_by, Any, if◌then◌else◌}
use Rattle.std.specs.List.{list_any}
use Rattle.star_values.specs.declared.small_text.TheConstants.{MAX_TEXT_BYTES}
use Rattle.star_values.specs.declared.value.Value.TheVariants as value
use Rattle.star_lexer.specs.declared.keyword.Keyword.TheVariants as keyword
use Rattle.star_lexer.specs.declared.limits.TheConstants.{MAX_DEPTH, MAX_NOTS, MAX_LIST}
use Rattle.star_lexer.specs.declared.reading.TheConstants.{MAX_LINE_BYTES, MAX_NAME_BYTES}
use Rattle.star_lexer.specs.declared.sign.Sign.TheVariants as sign
use Rattle.star_lexer.specs.declared.symbol.Symbol.{Symbol}
use Rattle.star_lexer.specs.declared.symbol.Symbol.TheVariants as symbol
use Rattle.star_lexer.specs.Symbol.{symbols_of}

-- a name of more than 63 bytes, or a text of more than 255
abbrev pub IsTooLong : Symbol → Type 0
IsTooLong (symbol.Name name) = MAX_NAME_BYTES < length name
IsTooLong (symbol.Literal (value.Str text)) = MAX_TEXT_BYTES < length text
IsTooLong (symbol.Literal (value.Int n)) = ⊥
IsTooLong (symbol.Keyword k) = ⊥
IsTooLong (symbol.Sign s) = ⊥

-- the keyword `in`
abbrev pub is_in : Symbol → Bool
is_in (symbol.Keyword keyword.In) = true
is_in _ = false

-- the sign `(`
abbrev pub is_open : Symbol → Bool
is_open (symbol.Sign sign.Open) = true
is_open _ = false

-- the sign `)`
abbrev pub is_close : Symbol → Bool
is_close (symbol.Sign sign.Close) = true
is_close _ = false

-- the keyword `not`
abbrev pub is_not : Symbol → Bool
is_not (symbol.Keyword keyword.Not) = true
is_not _ = false

-- an integer or a text
abbrev pub is_literal : Symbol → Bool
is_literal (symbol.Literal v) = true
is_literal _ = false

-- the sign `,`
abbrev pub is_comma : Symbol → Bool
is_comma (symbol.Sign sign.Comma) = true
is_comma _ = false

-- a literal or a comma: what goes on a list
abbrev pub is_listed : Symbol → Bool
is_listed s = is_literal s || is_comma s

-- some prefix has more than 64 `(` beyond its `)`
abbrev pub IsTooDeep : List Symbol → Type 0
IsTooDeep symbols =
    (count : ℕ)
    × (count_by is_close (take count symbols) + MAX_DEPTH < count_by is_open (take count symbols))

-- there are more than 64 `not`
abbrev pub HasTooManyNots : List Symbol → Type 0
HasTooManyNots symbols = MAX_NOTS < count_by is_not symbols

-- the run of literals and commas behind some `in` and `(` has more than 256 literals
abbrev pub HasTooLongAList : List Symbol → Type 0
HasTooLongAList symbols =
    (front : List Symbol) × (rest : List Symbol)
    × (symbols ≡ front ++ symbol.Keyword keyword.In ∷ symbol.Sign sign.Open ∷ rest)
    × (MAX_LIST < count_by is_literal (take_while is_listed rest))

-- the same at the front: an `in`, a `(` and then such a run
abbrev pub begins_too_long_a_list : List Symbol → Bool
begins_too_long_a_list (s ∷ t ∷ rest) =
    is_in s && (is_open t && nat_lt MAX_LIST (count_by is_literal (take_while is_listed rest)))
begins_too_long_a_list _ = false

-- symbols break one of the limits on symbols together
abbrev pub AreOverTogether : List Symbol → Type 0
AreOverTogether symbols = IsTooDeep symbols ⊎ (HasTooManyNots symbols ⊎ HasTooLongAList symbols)

-- symbols break one of the limits on symbols: one of them alone, or all together
abbrev pub AreOverLimit : List Symbol → Type 0
AreOverLimit symbols = Any IsTooLong symbols ⊎ AreOverTogether symbols

-- a line breaks one of the limits: it has more than 65,536 bytes, or its
-- symbols break one of theirs
abbrev pub IsOverLimit : List ℕ → Type 0
IsOverLimit line = (MAX_LINE_BYTES < length line) ⊎ AreOverLimit (symbols_of line)

-- The same limits as tests, for definitions that go by cases.

-- one symbol breaks a limit by itself
abbrev pub is_too_long : Symbol → Bool
is_too_long (symbol.Name name) = nat_lt MAX_NAME_BYTES (length name)
is_too_long (symbol.Literal (value.Str text)) = nat_lt MAX_TEXT_BYTES (length text)
is_too_long (symbol.Literal (value.Int n)) = false
is_too_long (symbol.Keyword k) = false
is_too_long (symbol.Sign s) = false

-- some prefix of the symbols is too deep, where so many `(` and `)` stand before them
abbrev pub goes_too_deep : ℕ → ℕ → List Symbol → Bool
goes_too_deep opened closed [] = nat_lt (closed + MAX_DEPTH) opened
goes_too_deep opened closed (s ∷ symbols) =
    nat_lt (closed + MAX_DEPTH) opened
    || goes_too_deep (if is_open s then opened + 1 else opened)
    (if is_close s then closed + 1 else closed) symbols

-- such a run is somewhere in the symbols
abbrev pub has_too_long_a_list : List Symbol → Bool
has_too_long_a_list [] = false
has_too_long_a_list (s ∷ symbols) =
    begins_too_long_a_list (s ∷ symbols) || has_too_long_a_list symbols

-- symbols break one of the limits on symbols
abbrev pub are_over_limit : List Symbol → Bool
are_over_limit symbols =
    list_any is_too_long symbols
    || (goes_too_deep 0 0 symbols
    || (nat_lt MAX_NOTS (count_by is_not symbols) || has_too_long_a_list symbols))

-- a line breaks one of the limits
unfoldable pub is_over_limit : List ℕ → Bool
is_over_limit line = nat_lt MAX_LINE_BYTES (length line) || are_over_limit (symbols_of line)
