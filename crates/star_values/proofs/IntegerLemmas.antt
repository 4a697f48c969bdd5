-- The test for an integer says what the rule says, what passes it is ASCII, and decimal text passes it.
use Rattle.std.proofs.Common.{◌≡◌, ℕ, zero, suc, ◌<◌, ◌^◌, Bool, true, false, cond, not, ◌&&◌, ◌==◌, nat_lt, nat_le, List, [], ◌∷◌, length, Option, Some, None, SomeIff, refl, ap, ◌∙◌, arith, ℤ, pos, negsuc, neg_ℤ, FitsSigned, w64}
use Rattle.std.specs.Bool.{Decides}
use Rattle.std.specs.Fmt.{decimal, signed_decimal}
use Rattle.std.specs.Str.{all_ascii_digits, IsAscii, IsUtf8}
use Rattle.std.specs.Str.Parse.{AllDigits, IsNumeral, digits_value}
use Rattle.std.proofs.lemmas.Bool.Decides.{nat_tests, Decides-and}
use Rattle.std.proofs.lemmas.Str.{IsUtf8-from_ascii}
use Rattle.std.proofs.lemmas.Str.Parse.{IsNumeralModel, tells_all_ascii_digits, numerals_by_value, digit_from_value}
use Rattle.std.proofs.lemmas.Fmt.{IsAscii-from_digits, decimal_is_IsNumeral}
use Rattle.star_values.specs.Integer.{has_minus, magnitude_of, integer_of, IsWrittenInteger, is_integer, integer_in}

-- a byte below 128 before ASCII bytes leaves them ASCII
IsAscii-cons : (b : ℕ) (bs : List ℕ) → b < 128 → IsAscii bs → IsAscii (b ∷ bs)
IsAscii-cons b bs low h zero = low
IsAscii-cons b bs low h (suc i) = h i

-- digits with a minus in front, or with none, are ASCII
IsAscii-from_sign : (b : ℕ) (bs : List ℕ) (minus : Bool) → (b == 45) ≡ minus → AllDigits 10 (cond minus bs (b ∷ bs)) → IsAscii (b ∷ bs)
IsAscii-from_sign b bs true e h = IsAscii-cons b bs (grind (arith, nat_tests)) (IsAscii-from_digits bs h)
IsAscii-from_sign b bs false e h = IsAscii-from_digits (b ∷ bs) h

-- what writes an integer is text
pub IsUtf8-from_integer : (bytes : List ℕ) → IsWrittenInteger bytes → IsUtf8 bytes
IsUtf8-from_integer [] h = absurd (omega (arith, h.numeral.0))
IsUtf8-from_integer (b ∷ bs) h = IsUtf8-from_ascii (b ∷ bs) (IsAscii-from_sign b bs (b == 45) refl h.numeral.1)

digits_model : IsNumeralModel (λ ds. all_ascii_digits ds ≡ true) (digits_value 10)
digits_model = numerals_by_value _ tells_all_ascii_digits

Decides-nonempty : (n : ℕ) → Decides (not (n == 0)) (0 < n)
Decides-nonempty n = (λ h. grind (arith, nat_tests), λ h. grind (arith, nat_tests))

-- a numeral, as a test
Decides-numeral : (ds : List ℕ) → Decides (not (length ds == 0) && all_ascii_digits ds) (IsNumeral 10 ds)
Decides-numeral ds = Decides-and _ _ (Decides-nonempty (length ds)) (digits_model.to ds, digits_model.from ds)

Decides-range : (minus : Bool) (n : ℕ)
    → Decides (cond minus (nat_le n (2 ^ 63)) (nat_lt n (2 ^ 63))) (FitsSigned w64 (cond minus (neg_ℤ (pos n)) (pos n)))
Decides-range true zero = (λ _. record { sfits = omega arith }, λ _. grind (arith, nat_tests))
Decides-range true (suc n) = (λ h. record { sfits = grind (arith, nat_tests) }, λ h. let low = h.sfits in grind (arith, nat_tests))
Decides-range false n = (λ h. record { sfits = grind (arith, nat_tests) }, λ h. let low = h.sfits in grind (arith, nat_tests))

pub Decides-is_integer : (bytes : List ℕ) → Decides (is_integer bytes) (IsWrittenInteger bytes)
Decides-is_integer bytes =
    let both = Decides-and _ _ (Decides-numeral (magnitude_of bytes)) (Decides-range (has_minus bytes) (digits_value 10 (magnitude_of bytes))) in
    (λ h. record { numeral = (both.0 h).0; in_range = (both.0 h).1 }, λ h. both.1 (h.numeral, h.in_range))

-- the rule leaves one answer, which is what the test gives
integer_in_by : (bytes : List ℕ) (test : Bool) → Decides test (IsWrittenInteger bytes) → (r : Option ℤ)
    → SomeIff r (IsWrittenInteger bytes) (integer_of bytes) → r ≡ cond test (Some (integer_of bytes)) None
integer_in_by bytes true d None h = absurd (h (d.0 refl))
integer_in_by bytes true d (Some n) h = grind (arith, h.1)
integer_in_by bytes false d None h = refl
integer_in_by bytes false d (Some n) h = let wrong = d.1 h.0 in (cc)

pub integer_in-from_rule : (bytes : List ℕ) (r : Option ℤ) → SomeIff r (IsWrittenInteger bytes) (integer_of bytes) → r ≡ integer_in bytes
integer_in-from_rule bytes r h = integer_in_by bytes (is_integer bytes) (Decides-is_integer bytes) r h

pub integer_in-from_integer : (bytes : List ℕ) → IsWrittenInteger bytes → integer_in bytes ≡ Some (integer_of bytes)
integer_in-from_integer bytes h = let passes : is_integer bytes ≡ true = (Decides-is_integer bytes).1 h in rw passes

-- a numeral has no minus in front
has_minus-numeral : (ds : List ℕ) → AllDigits 10 ds → has_minus ds ≡ false
has_minus-numeral [] h = refl
has_minus-numeral (d ∷ ds) h = let digit = digit_from_value d h.0 in grind (arith, nat_tests)

plain_integer : (ds : List ℕ) (n : ℕ) → IsNumeral 10 ds → digits_value 10 ds ≡ n → n < 2 ^ 63 → IsWrittenInteger ds × (integer_of ds ≡ pos n)
plain_integer ds n numeral value small =
    let plain = has_minus-numeral ds numeral.1 in
    (record { numeral = rw plain numeral; in_range = rw (plain, value) (record { sfits = small }) }, rw (plain, value))

negative_integer : (ds : List ℕ) (n : ℕ) → IsNumeral 10 ds → digits_value 10 ds ≡ suc n → n < 2 ^ 63 → IsWrittenInteger (45 ∷ ds) × (integer_of (45 ∷ ds) ≡ negsuc n)
negative_integer ds n numeral value small =
    (record { numeral = numeral; in_range = rw value (record { sfits = small }) }, rw value)

reads_back : (bytes : List ℕ) (n : ℤ) → IsWrittenInteger bytes × (integer_of bytes ≡ n) → integer_in bytes ≡ Some n
reads_back bytes n h = integer_in-from_integer bytes h.0 ∙ ap Some h.1

pub integer_in-signed_decimal : (n : ℤ) → FitsSigned w64 n → integer_in (signed_decimal n) ≡ Some n
integer_in-signed_decimal (pos n) fits =
    let small = fits.sfits in
    let read = decimal_is_IsNumeral n (omega arith) in
    reads_back (decimal n) (pos n) (plain_integer (decimal n) n read.0 read.1 small)
integer_in-signed_decimal (negsuc n) fits =
    let small = fits.sfits in
    let read = decimal_is_IsNumeral (suc n) (omega arith) in
    reads_back (45 ∷ decimal (suc n)) (negsuc n) (negative_integer (decimal (suc n)) n read.0 read.1 small)
