-- A list of words, read from left to right: which options it names, and with which values.
use Rattle.std.specs.Prelude.{ℕ, ◌==◌, nat_eq, Bool, List, [], ◌∷◌, Option, Some, None, is_some, drop, option_map, if◌then◌else◌, codes}
use Rattle.std.specs.List.{list_any, before_first, after_first, starts_with}

-- a word, a name or a value, as its bytes
abbrev pub Text : Type 0
Text = List ℕ

-- the sign `=`
abbrev pub is_equals : ℕ → Bool
is_equals byte = byte == 61

-- the name before the first `=`, and the value behind it, if there is one
abbrev pub name_and_value : Text → Text × Option Text
name_and_value text = (
  before_first is_equals text,
  if list_any is_equals text then Some (after_first is_equals text) else None,
)

-- a word `--name` or `--name=value`; every other word is no option. The word `--` itself has an
-- empty name, which is no name of the table
abbrev pub option_of : Text → Option (Text × Option Text)
option_of word =
    if starts_with nat_eq word (codes "--") then Some (name_and_value (drop 2 word)) else None

-- an option that was named, and the value that was written for it
pub record NamedOption : Type 0 where
  pub name : Text
  pub value : Text

-- one more entry, in front of those that were read, if any were
abbrev pub with_entry : Text → Text → Option (List NamedOption) → Option (List NamedOption)
with_entry name value = option_map (λ entries. record { name = name; value = value } ∷ entries)

-- the entries from a word on, of which `rest` reads the words behind it. The word is the value of
-- an option that was named just before it, whatever it looks like; or else it is an option, with
-- its value or before its value; or else it belongs to no option, and there are no entries.
abbrev pub entries_at : Option Text → Text → Option (Text × Option Text)
    → (Option Text → Option (List NamedOption))
    → Option (List NamedOption)
entries_at (Some name) word as_option rest = with_entry name word (rest None)
entries_at None word (Some (name, Some value)) rest = with_entry name value (rest None)
entries_at None word (Some (name, None)) rest = rest (Some name)
entries_at None word None rest = None

-- the entries of words. `named` is an option that was named just before them and has no value yet:
-- there are no entries where the words end at it
unfoldable pub entries_from : List Text → Option Text → Option (List NamedOption)
entries_from [] named = if is_some named then None else Some []
entries_from (word ∷ words) named = entries_at named word (option_of word) (entries_from words)

-- the options that the words name, with their values, in the order of the words
abbrev pub entries_of : List Text → Option (List NamedOption)
entries_of words = entries_from words None
