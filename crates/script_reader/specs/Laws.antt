-- What the lines and blocks of a script are, said once more without the
-- recursions that define them.
use Rattle.std.specs.Prelude.{◌≡◌, ◌≢◌, ◌↔◌, ℕ, ◌+◌, ◌<◌, ◌≤◌, Bool, true, false, List, [], ◌∷◌, ◌++◌, length, All, Some, None, IsUtf8}
use Rattle.std.specs.List.{concat}
use Rattle.script_reader.specs.declared.statement.Block.TheVariants.{Closed}
use Rattle.script_reader.specs.declared.clipping.TheConstants.{LINE_LIMIT}
use Rattle.script_reader.specs.Script.{clipped, lines_of, is_dot_line, statements_in}

-- no byte is lost between the lines, none is added, and all stay in order
abbrev pub LinesJoinedAreTheScript : Type 0
LinesJoinedAreTheScript = (script : List ℕ) → concat (lines_of script) ≡ script

-- bytes without a line feed and then a line feed are one line
abbrev pub LineEndsAtItsLineFeed : Type 0
LineEndsAtItsLineFeed =
    (line rest : List ℕ) → All (λ byte. byte ≢ 10) line
    → lines_of (line ++ 10 ∷ rest) ≡ (line ++ 10 ∷ []) ∷ lines_of rest

-- the block of a `load` is the bytes of the lines in front of the first dot line
abbrev pub BlockEndsAtTheFirstDotLine : Type 0
BlockEndsAtTheFirstDotLine =
    (ended : Bool) (text dot : List ℕ) (block lines : List (List ℕ))
    → All (λ line. is_dot_line line ≡ false) block → is_dot_line dot ≡ true
    → statements_in ended (Some (text, [])) (block ++ dot ∷ lines)
    ≡ record { line = text; block = Closed (concat block) } ∷ statements_in ended None lines

-- what a statement has of the text of a line: all of it within the limit, and never more than a byte
-- past it. It is UTF-8 exactly where the text is, and a text past the limit that is UTF-8 stays past it
pub record LongLinesAreClipped : Type 0 where
  pub whole : (text : List ℕ) → length text ≤ LINE_LIMIT → clipped text ≡ text
  pub utf8 : (text : List ℕ) → IsUtf8 (clipped text) ↔ IsUtf8 text
  pub long : (text : List ℕ) → IsUtf8 text → LINE_LIMIT < length text
      → LINE_LIMIT < length (clipped text)
  pub short : (text : List ℕ) → length (clipped text) ≤ LINE_LIMIT + 1
