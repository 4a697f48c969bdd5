-- How far the first statement of a script reaches: over whole lines, up to and with its last one.
use Rattle.std.specs.Prelude.{◌≡◌, ℕ, ◌≤◌, Bool, true, List, [], ◌∷◌, ◌++◌, length, take, drop, All}
use Rattle.std.specs.List.{concat}
use Rattle.script_reader.specs.declared.closing.Closing.{Closing}
use Rattle.script_reader.specs.declared.closing.Closing.TheVariants.{Dot, Input}
use Rattle.script_reader.specs.declared.statement.Statement.{Statement}
use Rattle.script_reader.specs.declared.statement.Block.{Block}
use Rattle.script_reader.specs.declared.statement.Block.TheVariants.{Absent, Closed, Unclosed}
use Rattle.script_reader.specs.Script.{whole_lines, line_text, clipped, is_no_statement, is_dot_line}

-- the first bytes, so many of them, are these lines, and these lines come first
pub record AreLines (ended : Bool) (script : List ℕ) (len : ℕ)
    (lines : List (List ℕ)) : Type 0 where
  pub bytes : take len script ≡ concat lines
  pub first : whole_lines ended script ≡ lines ++ whole_lines ended (drop len script)

-- none of the lines begins a statement
abbrev pub BeginNone : List (List ℕ) → Type 0
BeginNone lines = All (λ line. is_no_statement (line_text line) ≡ true) lines

-- the lines behind a statement's own: none, those of its block and the dot
-- line, or those of its block
abbrev pub AreBehind : Block → List (List ℕ) → Type 0
AreBehind Absent lines = lines ≡ []
AreBehind (Closed text) lines =
    (block : List (List ℕ)) × (dot : List ℕ)
    × (lines ≡ block ++ dot ∷ []) × (concat block ≡ text) × (is_dot_line dot ≡ true)
AreBehind (Unclosed text) lines = concat lines ≡ text

-- up to its end a statement takes whole lines: some that begin none, then its own,
-- and then those of its block
pub record TakesLines (ended : Bool) (script : List ℕ) (statement : Statement)
    (len : ℕ) : Type 0 where
  pub passed : List (List ℕ)
  pub own : List ℕ
  pub behind : List (List ℕ)
  pub lines : AreLines ended script len (passed ++ own ∷ behind)
  pub begin_none : BeginNone passed
  pub is_own : clipped (line_text own) ≡ statement.line
  pub are_behind : AreBehind statement.block behind

-- the lines up to there begin no statement, but for the last, which has this text
pub record Opens (ended : Bool) (script text : List ℕ) (end : ℕ) : Type 0 where
  pub passed : List (List ℕ)
  pub own : List ℕ
  pub lines : AreLines ended script end (passed ++ own ∷ [])
  pub begin_none : BeginNone passed
  pub is_own : line_text own ≡ text

-- the bytes up to that end are lines, and those in front of a dot line are the block
abbrev pub Closes : Bool → List ℕ → Closing → Type 0
Closes ended rest (Dot len end) =
    (block : List (List ℕ)) × (dot : List ℕ)
    × AreLines ended rest end (block ++ dot ∷ []) × (concat block ≡ take len rest)
    × (is_dot_line dot ≡ true)
Closes ended rest Input = (block : List (List ℕ)) × AreLines ended rest (length rest) block

-- the bytes up to there are the lines behind the own line of a statement with this block
abbrev pub TakesBehind : Bool → List ℕ → Block → ℕ → Type 0
TakesBehind ended rest block len =
    (lines : List (List ℕ)) × AreLines ended rest len lines × AreBehind block lines

-- the `load` has this of its line, and takes the lines of its block from the bytes behind
pub record TakesLoad (ended : Bool) (text rest : List ℕ) (statement : Statement) (len : ℕ)
    : Type 0 where
  pub line : statement.line ≡ text
  pub lines : TakesBehind ended rest statement.block len
  pub within : len ≤ length rest
