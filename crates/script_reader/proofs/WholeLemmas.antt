-- What is given of the statements of lines is the statements with their lines clipped.
use Rattle.std.proofs.Common.{◌≡◌, ℕ, Bool, true, false, List, [], ◌∷◌, ◌++◌, map, Some, None, refl}
use Rattle.std.specs.Prelude.{if◌then◌else◌}
use Rattle.script_reader.specs.declared.statement.Statement.{Statement}
use Rattle.script_reader.specs.declared.statement.Block.TheVariants.{Absent, Closed, Unclosed}
use Rattle.script_reader.specs.Script.{clipped, has_block, is_dot_line, is_no_statement, line_text, statements_in, whole_lines}
use Rattle.script_reader.specs.Whole.{StatementsAreGiven, given, whole_statements_in}

choose : (skips block : Bool) (a b a' b' : List Statement) (s : Statement) → a ≡ map given a' → b ≡ map given b'
    → (if skips then a else (if block then b else (given s ∷ a)))
    ≡ map given (if skips then a' else (if block then b' else (s ∷ a')))
choose true block a b a' b' s same same' = same
choose false true a b a' b' s same same' = same'
choose false false a b a' b' s same same' = λ i. given s ∷ same i

last_one : (ended : Bool) (s : Statement) → (if ended then given s ∷ [] else []) ≡ map given (if ended then s ∷ [] else [])
last_one true s = refl
last_one false s = refl

close_or : (dot : Bool) (a b a' b' : List Statement) (s : Statement) → a ≡ map given a' → b ≡ map given b'
    → (if dot then given s ∷ a else b) ≡ map given (if dot then s ∷ a' else b')
close_or true a b a' b' s same same' = λ i. given s ∷ same i
close_or false a b a' b' s same same' = same'

-- with no block open, and with one
record AreGiven (ended : Bool) (lines : List (List ℕ)) : Type 0 where
  closed : statements_in ended None lines ≡ map given (whole_statements_in ended None lines)
  opened : (text block : List ℕ)
      → statements_in ended (Some (clipped text, block)) lines ≡ map given (whole_statements_in ended (Some (text, block)) lines)

are_given : (ended : Bool) (lines : List (List ℕ)) → AreGiven ended lines
are_given ended [] = record {
  closed = refl;
  opened = λ text block. last_one ended (record { line = text; block = Unclosed block });
}
are_given ended (line ∷ lines) =
    let rest = are_given ended lines in
    let text = line_text line in
    record {
      closed = choose (is_no_statement text) (has_block text) (statements_in ended None lines) (statements_in ended (Some (clipped text, [])) lines)
          (whole_statements_in ended None lines) (whole_statements_in ended (Some (text, [])) lines) (record { line = text; block = Absent })
          rest.closed (rest.opened text []);
      opened = λ text block. close_or (is_dot_line line) (statements_in ended None lines) (statements_in ended (Some (clipped text, block ++ line)) lines)
          (whole_statements_in ended None lines) (whole_statements_in ended (Some (text, block ++ line)) lines) (record { line = text; block = Closed block })
          rest.closed (rest.opened text (block ++ line));
    }

pub all_given : StatementsAreGiven
all_given ended script = (are_given ended (whole_lines ended script)).closed
