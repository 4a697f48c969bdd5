-- The first thing that is wrong with a list of words, read from left to right.
use Rattle.std.specs.Prelude.{Bool, false, List, [], ◌∷◌, ◌++◌, length, Option, Some, None, Result, Ok, Err, is_some, option_map, if◌then◌else◌, codes}
use Rattle.std.specs.List.{list_any}
use Rattle.std.specs.Str.{bytes_eq}
use Rattle.star_main.specs.Words.{Text, option_of}
use Rattle.star_main.specs.Values.{mode_in, number_in}
use Rattle.star_main.specs.declared.limits.TheConstants.{WORKERS, SLOTS, BATCH, SEED, ROWS, PORT, ACCEPT}
use Rattle.star_main.specs.declared.word_fault.OptionValues.{OptionValues}
use Rattle.star_main.specs.declared.word_fault.OptionValues.TheVariants.{Modes, Numbers}
use Rattle.star_main.specs.declared.word_fault.PlacedOption.{PlacedOption}
use Rattle.star_main.specs.declared.word_fault.WordFault.{WordFault}
use Rattle.star_main.specs.declared.word_fault.WordFault.TheVariants.{Stray, Unknown, Repeated, NoValue, WrongValue}

-- the values of the option with a name, if there is one
abbrev pub values_of : Text → Option OptionValues
values_of name =
    if bytes_eq name (codes "mode") then Some Modes
    else if bytes_eq name (codes "workers") then Some (Numbers WORKERS)
    else if bytes_eq name (codes "slots") then Some (Numbers SLOTS)
    else if bytes_eq name (codes "batch") then Some (Numbers BATCH)
    else if bytes_eq name (codes "seed") then Some (Numbers SEED)
    else if bytes_eq name (codes "rows") then Some (Numbers ROWS)
    else if bytes_eq name (codes "port") then Some (Numbers PORT)
    else if bytes_eq name (codes "accept") then Some (Numbers ACCEPT)
    else None

-- the text is one of the values
abbrev pub takes : OptionValues → Text → Bool
takes Modes text = is_some (mode_in text)
takes (Numbers numbers) text = is_some (number_in numbers text)

-- what a word is as an option is an option of the name
abbrev pub has_name : Text → Option (Text × Option Text) → Bool
has_name name None = false
has_name name (Some option) = bytes_eq option.0 name

-- one of the words is `--name` or `--name=value`
abbrev pub is_named_in : List Text → Text → Bool
is_named_in words name = list_any (λ word. has_name name (option_of word)) words

-- after a value of the option: no option waits for its value, if the option takes this one
abbrev pub after_value : PlacedOption → Text → Result (Option PlacedOption) WordFault
after_value option text = if takes option.values text then Ok None else Err (WrongValue option)

-- after an option: its value stands in the same word, or the option waits for the next one
abbrev pub after_name : PlacedOption → Option Text → Result (Option PlacedOption) WordFault
after_name option (Some text) = after_value option text
after_name option None = Ok (Some option)

-- after the name of an option, whose values are these, if it is known
abbrev pub after_option : List Text → Text → Option Text → Option OptionValues → Result (Option PlacedOption) WordFault
after_option before name value None = Err (Unknown (length before))
after_option before name value (Some values) =
    if is_named_in before name then Err (Repeated (length before))
    else after_name (record { place = length before; values = values }) value

-- after a word that has to be an option
abbrev pub after_plain : List Text → Option (Text × Option Text) → Result (Option PlacedOption) WordFault
after_plain before None = Err (Stray (length before))
after_plain before (Some option) = after_option before option.0 option.1 (values_of option.0)

-- the option that waits for its value after a word, or what is wrong with the word. The words before
-- it have no fault; the option that waits, if one does, is the last of them
abbrev pub after_word : List Text → Option PlacedOption → Text → Result (Option PlacedOption) WordFault
after_word before (Some option) word = after_value option word
after_word before None word = after_plain before (option_of word)

-- what is made of the option that waits, or the fault
abbrev pub fault_or : (Option PlacedOption → Option WordFault) → Result (Option PlacedOption) WordFault → Option WordFault
fault_or more (Ok waiting) = more waiting
fault_or more (Err fault) = Some fault

-- the first fault of words, after words without one
unfoldable pub fault_from : List Text → List Text → Option PlacedOption → Option WordFault
fault_from before [] waiting = option_map (λ option. NoValue option) waiting
fault_from before (word ∷ words) waiting =
    fault_or (fault_from (before ++ word ∷ []) words) (after_word before waiting word)

-- the first fault of words
abbrev pub fault_of_words : List Text → Option WordFault
fault_of_words words = fault_from [] words None
