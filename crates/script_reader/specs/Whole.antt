-- The statements of a script with the whole texts of their lines, however long those are. What is
-- given of them is in `Script`.
use Rattle.std.specs.Prelude.{◌≡◌, ℕ, Bool, List, [], ◌∷◌, ◌++◌, map, Option, Some, None, if◌then◌else◌}
use Rattle.script_reader.specs.declared.statement.Statement.{Statement}
use Rattle.script_reader.specs.declared.statement.Block.TheVariants.{Absent, Closed, Unclosed}
use Rattle.script_reader.specs.Script.{clipped, has_block, is_dot_line, is_no_statement, line_text, statements_of, whole_lines}

-- the statements of lines. Where a block is open, `load` is the text of its line and the bytes of
-- its lines so far
abbrev pub whole_statements_in : Bool → Option (List ℕ × List ℕ) → List (List ℕ) → List Statement
whole_statements_in ended None [] = []
whole_statements_in ended None (line ∷ lines) =
    let text = line_text line in
    if is_no_statement text then whole_statements_in ended None lines
    else (if has_block text then whole_statements_in ended (Some (text, [])) lines
    else (record { line = text; block = Absent } ∷ whole_statements_in ended None lines))
whole_statements_in ended (Some load) [] =
    if ended then record { line = load.0; block = Unclosed load.1 } ∷ [] else []
whole_statements_in ended (Some load) (line ∷ lines) =
    if is_dot_line line
    then record { line = load.0; block = Closed load.1 } ∷ whole_statements_in ended None lines
    else whole_statements_in ended (Some (load.0, load.1 ++ line)) lines

-- the statements of a script
abbrev pub whole_statements_of : Bool → List ℕ → List Statement
whole_statements_of ended script = whole_statements_in ended None (whole_lines ended script)

-- what is given of a statement
abbrev pub given : Statement → Statement
given statement = record statement { line = clipped statement.line }

-- nothing but long lines is given otherwise than it stands
abbrev pub StatementsAreGiven : Type 0
StatementsAreGiven =
    (ended : Bool) (script : List ℕ)
    → statements_of ended script ≡ map given (whole_statements_of ended script)
