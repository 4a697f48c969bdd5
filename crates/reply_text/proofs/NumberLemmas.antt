-- A number has one spelling: its decimal text.
use Rattle.std.proofs.Common.{◌≡◌, ℕ, ◌<◌, ◌^◌, ◌&&◌, nat_lt, true, false, List, [], ◌∷◌, ◌++◌, Option, Some, None, refl, ap, sym, subst, ◌∙◌, arith}
use Rattle.std.specs.Prelude.{bytes_eq}
use Rattle.std.specs.Char.{is_ascii_digit}
use Rattle.std.specs.Fmt.{decimal}
use Rattle.std.specs.List.{list_all, prefix_len}
use Rattle.std.specs.Str.{all_ascii_digits, IsUtf8}
use Rattle.std.specs.Str.Parse.{IsNumeral, digits_value}
use Rattle.std.proofs.lemmas.Bool.{and_parts}
use Rattle.std.proofs.lemmas.Bool.Decides.{nat_tests}
use Rattle.std.proofs.lemmas.Slice.Eq.{bytes_eq-Decides}
use Rattle.std.proofs.lemmas.Str.{IsUtf8-from_ascii}
use Rattle.std.proofs.lemmas.Str.Parse.{IsNumeralModel, tells_all_ascii_digits, numerals_by_value}
use Rattle.std.proofs.lemmas.Fmt.{IsAscii-from_digits, decimal_is_IsNumeral}
use Rattle.reply_text.specs.Reading.{IsNumber, number_in, number_at, number_then}
use Rattle.reply_text.proofs.PartLemmas.{ended_by-exact, ended_by-sound, if_some, part_at-exact, part_at-sound}

-- the bytes are the decimal text of the number, which is below 2^64
pub record IsDecimal (bytes : List ℕ) (n : ℕ) : Type 0 where
  pub fits : n < 2 ^ 64
  pub text : bytes ≡ decimal n

number_value : (bytes : List ℕ) (n : ℕ) → IsDecimal bytes n → digits_value 10 bytes ≡ n
number_value bytes n h = ap (digits_value 10) h.text ∙ (decimal_is_IsNumeral n h.fits).1

pub number_in-exact : (bytes : List ℕ) (n : ℕ) → IsDecimal bytes n → number_in bytes ≡ Some n
unfolding number_in
number_in-exact bytes n h =
    let value = number_value bytes n h in
    let fits = h.fits in
    let low : nat_lt n (2 ^ 64) ≡ true = grind (arith, nat_tests) in
    let same : bytes_eq (decimal n) bytes ≡ true = (bytes_eq-Decides (decimal n) bytes).1 (sym h.text) in
    rw (value, low, same) refl

pub number_in-sound : (bytes : List ℕ) (n : ℕ) → number_in bytes ≡ Some n → IsDecimal bytes n
unfolding number_in
number_in-sound bytes n e =
    let value = digits_value 10 bytes in
    let found = if_some (nat_lt value (2 ^ 64) && bytes_eq (decimal value) bytes) value n e in
    let parts = and_parts (nat_lt value (2 ^ 64)) (bytes_eq (decimal value) bytes) found.0 in
    let same : decimal value ≡ bytes = (bytes_eq-Decides (decimal value) bytes).0 parts.1 in
    subst (λ m. IsDecimal bytes m) found.1 (record { fits = let low = parts.0 in grind (arith, nat_tests); text = sym same })

number_in-by : (bytes : List ℕ) (o : Option ℕ) → number_in bytes ≡ o → ((n : ℕ) → IsDecimal bytes n → ⊥) → None ≡ number_in bytes
number_in-by bytes None e none = sym e
number_in-by bytes (Some n) e none = absurd (none n (number_in-sound bytes n e))

-- bytes that are the text of no number
pub number_in-none : (bytes : List ℕ) → ((n : ℕ) → IsDecimal bytes n → ⊥) → None ≡ number_in bytes
number_in-none bytes none = number_in-by bytes (number_in bytes) refl none

pub IsNumeral-decimal : (bytes : List ℕ) (n : ℕ) → IsDecimal bytes n → IsNumeral 10 bytes
IsNumeral-decimal bytes n h = rw h.text (decimal_is_IsNumeral n h.fits).0

pub IsUtf8-number : (bytes : List ℕ) → IsNumber bytes → IsUtf8 bytes
IsUtf8-number bytes h = IsUtf8-from_ascii bytes (IsAscii-from_digits bytes h.numeral.1)

number_of_decimal : (bytes : List ℕ) (n : ℕ) → IsDecimal bytes n → IsNumber bytes
number_of_decimal bytes n h =
    record { numeral = IsNumeral-decimal bytes n h; fits = subst (λ m. m < 2 ^ 64) (sym (number_value bytes n h)) h.fits }

-- bytes that write no number
pub number_in-no_number : (bytes : List ℕ) → (IsNumber bytes → ⊥) → None ≡ number_in bytes
number_in-no_number bytes none = number_in-none bytes (λ n h. none (number_of_decimal bytes n h))

-- bytes that are the text of the number that they write, and bytes that are not
pub number_in-same : (bytes text : List ℕ) (n : ℕ) → IsNumber bytes → n ≡ digits_value 10 bytes → text ≡ decimal n → bytes_eq text bytes ≡ true → Some n ≡ number_in bytes
number_in-same bytes text n is value written same =
    let e : text ≡ bytes = (bytes_eq-Decides text bytes).0 same in
    sym (number_in-exact bytes n (record { fits = subst (λ m. m < 2 ^ 64) (sym value) is.fits; text = sym e ∙ written }))

pub number_in-other : (bytes text : List ℕ) (n : ℕ) → n ≡ digits_value 10 bytes → text ≡ decimal n → bytes_eq text bytes ≡ false → None ≡ number_in bytes
number_in-other bytes text n value written other =
    number_in-none bytes (λ m h.
    let same : bytes ≡ text = h.text ∙ ap decimal (sym (number_value bytes m h) ∙ sym value) ∙ sym written in
    let yes_same : bytes_eq text bytes ≡ true = (bytes_eq-Decides text bytes).1 (sym same) in
    absurd (let no_same = other in cc))

pub list_all-digits : (ds : List ℕ) → all_ascii_digits ds ≡ true → list_all is_ascii_digit ds ≡ true
list_all-digits [] h = refl
list_all-digits (d ∷ ds) h =
    let parts = and_parts (is_ascii_digit d) (all_ascii_digits ds) h in rw (parts.0, list_all-digits ds parts.1) refl

digits_model : IsNumeralModel (λ ds. all_ascii_digits ds ≡ true) (digits_value 10)
digits_model = numerals_by_value _ tells_all_ascii_digits

pub decimal_digits : (n : ℕ) → n < 2 ^ 64 → list_all is_ascii_digit (decimal n) ≡ true
decimal_digits n fits = list_all-digits (decimal n) (digits_model.from (decimal n) (decimal_is_IsNumeral n fits).0.1)

number_at-exact : (n : ℕ) (rest : List ℕ) → n < 2 ^ 64 → prefix_len is_ascii_digit rest ≡ 0 → number_at (decimal n ++ rest) ≡ Some (n, rest)
unfolding number_at
number_at-exact n rest fits stop =
    part_at-exact is_ascii_digit number_in (decimal n) rest n (decimal_digits n fits) stop
    (number_in-exact (decimal n) n (record { fits = fits; text = refl }))

number_at-sound : (bytes : List ℕ) (out : ℕ × List ℕ) → number_at bytes ≡ Some out → (out.0 < 2 ^ 64) × (bytes ≡ decimal out.0 ++ out.1)
unfolding number_at
number_at-sound bytes out e =
    let found = part_at-sound is_ascii_digit number_in bytes out e in
    let is = number_in-sound found.0 out.0 found.1 in
    (is.fits, found.2 ∙ ap (λ text. text ++ out.1) is.text)

pub number_then-exact : (word : List ℕ) (n : ℕ) (rest : List ℕ) → n < 2 ^ 64 → prefix_len is_ascii_digit (word ++ rest) ≡ 0
    → number_then word (decimal n ++ (word ++ rest)) ≡ Some (n, rest)
number_then-exact word n rest fits stop =
    ended_by-exact word rest n (number_at (decimal n ++ (word ++ rest))) (number_at-exact n (word ++ rest) fits stop)

pub number_then-sound : (word bytes : List ℕ) (out : ℕ × List ℕ) → number_then word bytes ≡ Some out
    → (out.0 < 2 ^ 64) × (bytes ≡ decimal out.0 ++ (word ++ out.1))
number_then-sound word bytes out e =
    number_at-sound bytes (out.0, word ++ out.1) (ended_by-sound word (number_at bytes) out e)
