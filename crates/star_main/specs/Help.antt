-- Which words ask for help.
use Rattle.std.specs.Prelude.{Bool, ◌||◌, List, codes}
use Rattle.std.specs.List.{list_any}
use Rattle.std.specs.Str.{bytes_eq}
use Rattle.star_main.specs.Words.{Text}

-- the word is `--help` or `-h`
abbrev pub is_help : Text → Bool
is_help word = bytes_eq word (codes "--help") || bytes_eq word (codes "-h")

-- one of the words is
abbrev pub asks_for_help : List Text → Bool
asks_for_help words = list_any is_help words
