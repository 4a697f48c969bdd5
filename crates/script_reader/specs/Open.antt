-- What a line is to the statements, with the `load` whose block is open. The clauses of the
-- private functions cite these.
use Rattle.std.specs.Prelude.{◌≡◌, ◌≢◌, ℕ, ◌<◌, Bool, true, false, List, [], ◌∷◌, ◌++◌, length, take, drop, Option, Some, None}
use Rattle.script_reader.specs.declared.open_load.OpenLoad.{OpenLoad}
use Rattle.script_reader.specs.declared.open_load.TakenLine.{TakenLine}
use Rattle.script_reader.specs.declared.open_load.TakenLine.TheVariants.{Passed, Joined, Whole}
use Rattle.script_reader.specs.declared.statement.Statement.{Statement}
use Rattle.script_reader.specs.declared.statement.Block.TheVariants.{Unclosed}
use Rattle.script_reader.specs.declared.reader.NextStatement.{NextStatement}
use Rattle.script_reader.specs.declared.reader.NextStatement.TheVariants.{Got, NotYet, End}
use Rattle.script_reader.specs.Reading.{May, Reading}
use Rattle.script_reader.specs.Script.{clipped, is_ended, line_text, statements_in, statements_of, whole_lines}

-- no block is open
abbrev pub none_open : OpenLoad
none_open = record { line = []; block = [] }

-- what a `load` has of its line and the lines of its block, where there is a line
abbrev pub load_in : (line block : List ℕ) → Option (List ℕ × List ℕ)
load_in [] block = None
load_in (byte ∷ line) block = Some (clipped (line_text (byte ∷ line)), block)

-- the same, where a block is open
abbrev pub load_of : OpenLoad → Option (List ℕ × List ℕ)
load_of load = load_in load.line load.block

-- the bytes of the `load` so far
abbrev pub bytes_of : OpenLoad → List ℕ
bytes_of load = load.line ++ load.block

-- the statements of lines behind the `load`
abbrev pub statements_behind : (ended : Bool) → OpenLoad → List (List ℕ) → List Statement
statements_behind ended load lines = statements_in ended (load_of load) lines

-- the `load` has its own line: the first that joins it
abbrev pub KeepsLine : OpenLoad → OpenLoad → (line : List ℕ) → Type 0
KeepsLine old new line =
    (length old.line ≡ 0 → new.line ≡ line) × (0 < length old.line → new.line ≡ old.line)

-- a line is passed over, joins the `load`, or ends a statement
abbrev pub TakesLine : OpenLoad → OpenLoad → (line : List ℕ) → TakenLine → Type 0
TakesLine old new line Passed = (old ≡ none_open) × (new ≡ none_open)
    × ((ended : Bool) (lines : List (List ℕ))
    → statements_behind ended old (line ∷ lines) ≡ statements_behind ended new lines)
TakesLine old new line Joined = (0 < length new.line) × (bytes_of new ≡ bytes_of old ++ line)
    × ((ended : Bool) (lines : List (List ℕ))
    → statements_behind ended old (line ∷ lines) ≡ statements_behind ended new lines)
    × KeepsLine old new line
TakesLine old new line (Whole statement) = (new ≡ none_open)
    × ((ended : Bool) (lines : List (List ℕ)) →
    statements_behind ended old (line ∷ lines) ≡ statement ∷ statements_behind ended new lines)

-- a statement is left
abbrev pub LeavesSome : OpenLoad → (line : List ℕ) → Type 0
LeavesSome load line = (lines : List (List ℕ)) → statements_behind true load (line ∷ lines) ≢ []

-- the first line is so long, whatever bytes come
abbrev pub FirstLine : (ended : Bool) → List ℕ → ℕ → Type 0
FirstLine ended bytes len = (more : List ℕ) (last : Bool) → May ended more last
    → whole_lines last (bytes ++ more) ≡ take len bytes ∷ whole_lines last (drop len bytes ++ more)

-- the bytes hold no line that has come
abbrev pub NoLine : (ended : Bool) → List ℕ → Type 0
NoLine ended bytes =
    (is_ended bytes ≡ false) × (whole_lines false bytes ≡ []) × (ended ≡ true → bytes ≡ [])

-- the statements that wait are those of the lines behind the `load`
abbrev pub WaitBehindLoad : OpenLoad → (rest : List ℕ) → (ended : Bool) → Type 0
WaitBehindLoad load rest ended = (more : List ℕ) (last : Bool) → May ended more last
    → statements_of last ((bytes_of load ++ rest) ++ more)
    ≡ statements_behind last load (whole_lines last (rest ++ more))

-- these are parts of a reader: where no block is open nothing is kept of a `load`, the line of an
-- open one has its line feed where the input has not ended, and the statements that wait are those
-- of the lines behind it
abbrev pub AreParts : OpenLoad → (rest : List ℕ) → (ended : Bool) → Type 0
AreParts load rest ended = (length load.line ≡ 0 → load ≡ none_open)
    × (ended ≡ false → 0 < length load.line → is_ended load.line ≡ true)
    × WaitBehindLoad load rest ended

-- what a reader with these parts stands for
abbrev pub reading_of : OpenLoad → (rest : List ℕ) → (fed : ℕ) → (ended : Bool) → Reading
reading_of load rest fed ended =
    record { waiting = bytes_of load ++ rest; fed = fed; ended = ended }

-- at the end of the input an open block is an unclosed one, and else nothing is left
abbrev pub TakesLast : OpenLoad → OpenLoad → NextStatement → Type 0
TakesLast old new (Got statement) = (new ≡ none_open) × (0 < length old.line)
    × (statement ≡ record { line = clipped (line_text old.line); block = Unclosed old.block })
TakesLast old new NotYet = ⊥
TakesLast old new End = (old ≡ none_open) × (new ≡ none_open)
