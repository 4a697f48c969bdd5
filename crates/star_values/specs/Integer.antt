-- Which bytes write an integer of 64 bits, and which integer they write.
use Rattle.std.specs.Prelude.{ℕ, ℤ, pos, neg_ℤ, Bool, ◌&&◌, ◌==◌, not, nat_lt, nat_le, ◌^◌, List, drop, length, slice_index, Option, Some, None, if◌then◌else◌, FitsSigned}
use Rattle.std.specs.Int.{w64}
use Rattle.std.specs.Str.{all_ascii_digits}
use Rattle.std.specs.Str.Parse.{IsNumeral, digits_value}

-- a minus stands first
abbrev pub has_minus : List ℕ → Bool
has_minus bytes = slice_index bytes 0 == 45

-- the bytes behind a minus, or all bytes where none stands first
abbrev pub magnitude_of : List ℕ → List ℕ
magnitude_of bytes = if has_minus bytes then drop 1 bytes else bytes

-- the integer that decimal digits write, with perhaps a minus in front
abbrev pub integer_of : List ℕ → ℤ
integer_of bytes =
    let n = digits_value 10 (magnitude_of bytes) in
    if has_minus bytes then neg_ℤ (pos n) else pos n

-- perhaps a minus, then one or more decimal digits, and all in the signed range of 64 bits
pub record IsWrittenInteger (bytes : List ℕ) : Type 0 where
  pub numeral : IsNumeral 10 (magnitude_of bytes)
  pub in_range : FitsSigned w64 (integer_of bytes)

-- the same as a test
abbrev pub is_integer : List ℕ → Bool
is_integer bytes =
    let digits = magnitude_of bytes in
    let n = digits_value 10 digits in
    not (length digits == 0) && all_ascii_digits digits
    && (if has_minus bytes then nat_le n (2 ^ 63) else nat_lt n (2 ^ 63))

-- the integer that the bytes write, where they write one
abbrev pub integer_in : List ℕ → Option ℤ
integer_in bytes = if is_integer bytes then Some (integer_of bytes) else None
