-- Which values an option takes.
use Rattle.std.specs.Prelude.{ℕ, Bool, not, ◌==◌, ◌&&◌, nat_le, length, Option, Some, None, option_and_then, if◌then◌else◌, codes}
use Rattle.std.specs.Char.{is_ascii_digit}
use Rattle.std.specs.List.{list_all}
use Rattle.std.specs.Str.{bytes_eq}
use Rattle.std.specs.Str.Parse.{digits_value}
use Rattle.star_main.specs.Words.{Text}
use Rattle.star_main.specs.declared.limits.OptionNumbers.{OptionNumbers}
use Rattle.star_main.specs.declared.limits.TheConstants.{MAX_DIGITS}
use Rattle.star_main.specs.declared.settings.Mode.{Mode}
use Rattle.star_main.specs.declared.settings.Mode.TheVariants.{Run, Alone, Make, Serve}

-- `run`, `alone`, `make` or `serve`
abbrev pub mode_in : Text → Option Mode
mode_in text =
    if bytes_eq text (codes "run") then Some Run
    else if bytes_eq text (codes "alone") then Some Alone
    else if bytes_eq text (codes "make") then Some Make
    else if bytes_eq text (codes "serve") then Some Serve
    else None

-- the mode, where one is written, and `run` where none is
abbrev pub mode_or : Option Text → Option Mode
mode_or None = Some Run
mode_or (Some text) = mode_in text

-- one to seven decimal digits and nothing else
abbrev pub is_number : Text → Bool
is_number text =
    not (length text == 0) && (nat_le (length text) MAX_DIGITS && list_all is_ascii_digit text)

-- the number that a text is, if it is one
abbrev pub number_of : Text → Option ℕ
number_of text = if is_number text then Some (digits_value 10 text) else None

-- the number, where it is in the range of the option
abbrev pub within : OptionNumbers → ℕ → Option ℕ
within numbers number =
    if nat_le numbers.least number && nat_le number numbers.greatest then Some number else None

-- the number that a text is, where it is one and in the range of the option
abbrev pub number_in : OptionNumbers → Text → Option ℕ
number_in numbers text = option_and_then (within numbers) (number_of text)

-- the number, where one is written, and the default where none is
abbrev pub number_or : OptionNumbers → Option Text → Option ℕ
number_or numbers None = Some numbers.default
number_or numbers (Some text) = number_in numbers text
