-- A reader of words that takes no word for a value that begins with a hyphen and goes on, as `clap` does.
use Rattle.std.proofs.Common.{◌==◌, List, [], ◌∷◌, Option, Some, None}
use Rattle.std.specs.Prelude.{is_some, if◌then◌else◌}
use Rattle.star_main.specs.Words.{NamedOption, Text, name_and_value, with_entry}

-- `--name` or `--name=value`, another word that begins with a hyphen and goes on, or any other word
pub data Word : Type 0 where
  option : Text → Option Text → Word
  stray : Word
  plain : Word

-- a word, by what stands behind its two hyphens, behind its first hyphen, and as a whole
abbrev pub behind_hyphens : Text → Word
behind_hyphens [] = stray
behind_hyphens (byte ∷ rest) = option (name_and_value (byte ∷ rest)).0 (name_and_value (byte ∷ rest)).1

abbrev pub behind_hyphen : Text → Word
behind_hyphen [] = plain
behind_hyphen (byte ∷ rest) = if byte == 45 then behind_hyphens rest else stray

abbrev pub word_of : Text → Word
word_of [] = plain
word_of (byte ∷ rest) = if byte == 45 then behind_hyphen rest else plain

abbrev pub strict_at : Option Text → Text → Word → (Option Text → Option (List NamedOption)) → Option (List NamedOption)
strict_at None text (option name (Some value)) more = with_entry name value (more None)
strict_at None text (option name None) more = more (Some name)
strict_at (Some name) text plain more = with_entry name text (more None)
strict_at _ text _ more = None

unfoldable pub strict_from : List Text → Option Text → Option (List NamedOption)
strict_from [] waiting = if is_some waiting then None else Some []
strict_from (text ∷ rest) waiting = strict_at waiting text (word_of text) (strict_from rest)
