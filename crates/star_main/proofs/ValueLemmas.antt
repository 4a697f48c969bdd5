-- One to seven digits are read as the number that they write.
use Rattle.std.proofs.Common.{◌≡◌, ℕ, ◌<◌, ◌≤◌, ◌==◌, not, nat_le, true, length, Some, Result, Ok, refl, arith, rules}
use Rattle.std.specs.Char.{is_ascii_digit}
use Rattle.std.specs.List.{list_all}
use Rattle.std.specs.Str.Parse.{ParsesUnsigned, digits_value}
use Rattle.std.proofs.lemmas.Bool.{and_parts}
use Rattle.std.proofs.lemmas.Bool.Decides.{nat_tests}
use Rattle.std.proofs.lemmas.Str.Parse.{IsNumeralModel, numerals_by_value, parse_gives, digits_value_short}
use Rattle.star_main.specs.Values.{is_number, number_of}
use Rattle.star_main.specs.Words.{Text}
use Rattle.star_main.specs.declared.limits.TheConstants.{MAX_DIGITS}

digits_model : IsNumeralModel (λ ds. list_all is_ascii_digit ds ≡ true) (digits_value 10)
digits_model = numerals_by_value _ (search rules)

-- a text of digits below 2^32
pub number_read : {E : Type 0} (text : Text) (r : Result ℕ E) → ParsesUnsigned 32 10 text r → is_number text ≡ true
    → r ≡ Ok (digits_value 10 text)
number_read text r parsed test =
    let parts = and_parts (not (length text == 0)) _ test in
    let more = and_parts (nat_le (length text) MAX_DIGITS) (list_all is_ascii_digit text) parts.1 in
    let some : 0 < length text = let nonempty = parts.0 in grind (arith, nat_tests) in
    let few : length text ≤ 7 = let short = more.0 in grind (arith, nat_tests) in
    parse_gives digits_model 32 text r parsed more.1 some (omega (arith, digits_value_short digits_model text 7 more.1 few))

pub number_is : (text : Text) → is_number text ≡ true → Some (digits_value 10 text) ≡ number_of text
number_is text test = rw test refl
