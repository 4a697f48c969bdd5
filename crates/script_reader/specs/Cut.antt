-- Where the statements of a script go on. The clauses of the private functions cite these.
use Rattle.std.specs.Prelude.{ℕ, ◌≤◌, Bool, List, [], ◌∷◌, length, take, drop, Some, if◌then◌else◌}
use Rattle.script_reader.specs.declared.closing.Closing.{Closing}
use Rattle.script_reader.specs.declared.closing.Closing.TheVariants.{Dot, Input}
use Rattle.script_reader.specs.declared.statement.Statement.{Statement}
use Rattle.script_reader.specs.declared.statement.Block.TheVariants.{Absent, Closed, Unclosed}
use Rattle.script_reader.specs.Script.{whole_lines, has_block, clipped, statements_in, statements_of}

-- the statements from a `load` on: what it has of its line, and the bytes behind that line
abbrev pub statements_from_load : Bool → List ℕ → List ℕ → List Statement
statements_from_load ended text rest =
    statements_in ended (Some (text, [])) (whole_lines ended rest)

-- the statements from a line on that begins one: its text, and the bytes behind it
abbrev pub statements_from : Bool → List ℕ → List ℕ → List Statement
statements_from ended text rest =
    if has_block text then statements_from_load ended (clipped text) rest
    else (record { line = clipped text; block = Absent } ∷ statements_of ended rest)

-- the statements from a `load` on whose block ends there
abbrev pub statements_from_closing : Bool → List ℕ → List ℕ → Closing → List Statement
statements_from_closing ended text rest (Dot len end) =
    record { line = text; block = Closed (take len rest) } ∷ statements_of ended (drop end rest)
statements_from_closing ended text rest Input = record { line = text; block = Unclosed rest } ∷ []

-- the end of the block is one of the bytes
abbrev pub ClosesWithin : List ℕ → Closing → Type 0
ClosesWithin rest (Dot len end) = (len ≤ end) × (end ≤ length rest)
ClosesWithin rest Input = Unit {0}
