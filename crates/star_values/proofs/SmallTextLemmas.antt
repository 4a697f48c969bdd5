-- The test for a text says what its rule says.
use Rattle.std.proofs.Common.{ℕ, ◌≤◌, nat_le, List, length, refl, arith}
use Rattle.std.specs.Bool.{Decides}
use Rattle.std.specs.List.{All, list_all}
use Rattle.std.specs.Str.{IsUtf8}
use Rattle.std.proofs.lemmas.Bool.Decides.{nat_tests, Decides-and, Decides-by_and}
use Rattle.std.proofs.lemmas.Str.{IsUtf8-from_is_utf8, is_utf8-from_IsUtf8}
use Rattle.star_values.specs.declared.small_text.TheConstants.{MAX_TEXT_BYTES}
use Rattle.star_values.specs.SmallText.{IsSmallText, is_small_text}

Decides-nat_le : (m n : ℕ) → Decides (nat_le m n) (m ≤ n)
Decides-nat_le m n = (λ h. grind (arith, nat_tests), λ h. grind (arith, nat_tests))

Decides-parts : (bytes : List ℕ) → Decides (is_small_text bytes) (((length bytes ≤ MAX_TEXT_BYTES) × All (λ byte. 32 ≤ byte) bytes) × IsUtf8 bytes)
Decides-parts bytes =
    Decides-and _ _
    (Decides-and _ _ (Decides-nat_le (length bytes) MAX_TEXT_BYTES)
    (Decides-by_and (λ byte. nat_le 32 byte) (λ byte. 32 ≤ byte) (list_all (λ byte. nat_le 32 byte)) (Decides-nat_le 32) refl (λ _ _. refl) bytes))
    (IsUtf8-from_is_utf8 bytes, is_utf8-from_IsUtf8 bytes)

pub Decides-is_small_text : (bytes : List ℕ) → Decides (is_small_text bytes) (IsSmallText bytes)
Decides-is_small_text bytes =
    let parts = Decides-parts bytes in (
      λ h. let all = parts.0 h in record { short = all.0.0; printable = all.0.1; utf8 = all.1 },
      λ h. parts.1 ((h.short, h.printable), h.utf8),
    )
