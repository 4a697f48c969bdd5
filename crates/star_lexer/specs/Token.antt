-- What stands at the front of bytes: the longest token, and how many bytes it has.
use Rattle.std.specs.Prelude.{ℕ, ◌+◌, Bool, ◌||◌, ◌==◌, nat_eq, nat_lt, List, [], ◌∷◌, length, take, drop, position, codes, Option, Some, None, option_map, bytes_eq, if◌then◌else◌}
use Rattle.std.specs.Option.{option_or}
use Rattle.std.specs.List.{list_any, prefix_len, starts_with}
use Rattle.std.specs.Char.{is_ascii_alphabetic, is_ascii_alphanumeric, is_ascii_digit}
use Rattle.star_values.specs.Integer.{integer_in}
use Rattle.star_lexer.specs.declared.token.Lexeme.{Lexeme}
use Rattle.star_lexer.specs.declared.token.Lexeme.TheVariants.{Word, Integer, Text, Sign}

-- a letter or underscore
abbrev pub begins_word : ℕ → Bool
begins_word byte = is_ascii_alphabetic byte || byte == 95

-- a letter, a digit or an underscore
abbrev pub is_word_byte : ℕ → Bool
is_word_byte byte = is_ascii_alphanumeric byte || byte == 95

-- a word, as long as there are letters, digits and underscores
abbrev pub word_at : List ℕ → Option (Lexeme × ℕ)
word_at bytes =
    if list_any begins_word (take 1 bytes) then Some (Word, prefix_len is_word_byte bytes) else None

-- how many bytes a minus has at the front: one, or none where none stands there
abbrev pub minus_len : List ℕ → ℕ
minus_len bytes = if starts_with nat_eq bytes (codes "-") then 1 else 0

-- how many bytes a minus and the digits behind it have
abbrev pub number_len : List ℕ → ℕ
number_len bytes = minus_len bytes + prefix_len is_ascii_digit (drop (minus_len bytes) bytes)

-- an integer of 64 bits, where no letter, digit or underscore stands behind its digits
abbrev pub integer_at : List ℕ → Option (Lexeme × ℕ)
integer_at bytes =
    if list_any is_word_byte (take 1 (drop (number_len bytes) bytes)) then None
    else option_map (λ value. (Integer value, number_len bytes))
    (integer_in (take (number_len bytes) bytes))

-- how many bytes there are up to the quote that ends a text, with it: two quotes
-- together are one of the text
abbrev pub text_len : List ℕ → Option ℕ
text_len [] = None
text_len (byte ∷ []) = if byte == 39 then Some 1 else None
text_len (byte ∷ next ∷ bytes) =
    if byte == 39 then (if next == 39 then option_map (λ len. 2 + len) (text_len bytes) else Some 1)
    else (if nat_lt byte 32 then None else option_map (λ len. 1 + len) (text_len (next ∷ bytes)))

-- a text between quotes
abbrev pub text_at : List ℕ → Option (Lexeme × ℕ)
text_at bytes =
    if starts_with nat_eq bytes (codes "'")
    then option_map (λ len. (Text, 1 + len)) (text_len (drop 1 bytes)) else None

-- the signs, in the order of their numbers
abbrev pub signs : List (List ℕ)
signs =
    codes "(" ∷ codes ")" ∷ codes "," ∷ codes "." ∷ codes ";" ∷ codes "*" ∷ codes "=" ∷ codes "<>"
    ∷ codes "!="
    ∷ codes "<" ∷ codes "<=" ∷ codes ">" ∷ codes ">=" ∷ []

-- the bytes are a sign
abbrev pub sign_of : List ℕ → Option (Lexeme × ℕ)
sign_of bytes =
    option_map (λ number. (Sign number, length bytes))
    (position (λ sign. bytes_eq sign bytes) signs)

-- a sign of two bytes, or else one of one
abbrev pub sign_at : List ℕ → Option (Lexeme × ℕ)
sign_at bytes = option_or (sign_of (take 2 bytes)) (sign_of (take 1 bytes))

-- the token at the front; no two of the four begin with the same byte
abbrev pub token_at : List ℕ → Option (Lexeme × ℕ)
token_at bytes =
    option_or (option_or (word_at bytes) (integer_at bytes))
    (option_or (text_at bytes) (sign_at bytes))
