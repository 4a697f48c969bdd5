-- The rule of a text that a table may hold.
use Rattle.std.specs.Prelude.{ℕ, ◌≤◌, Bool, ◌&&◌, nat_le, List, length, All, IsUtf8}
use Rattle.std.specs.List.{list_all}
use Rattle.std.specs.Str.{is_utf8}
use Rattle.star_values.specs.declared.small_text.TheConstants.{MAX_TEXT_BYTES}

-- at most 255 bytes of UTF-8, and none of them a control byte below 0x20
pub record IsSmallText (bytes : List ℕ) : Type 0 where
  pub short : length bytes ≤ MAX_TEXT_BYTES
  pub printable : All (λ byte. 32 ≤ byte) bytes
  pub utf8 : IsUtf8 bytes

-- the same as a test
abbrev pub is_small_text : List ℕ → Bool
is_small_text bytes =
    nat_le (length bytes) MAX_TEXT_BYTES && list_all (λ byte. nat_le 32 byte) bytes && is_utf8 bytes
