-- The lines of an open block.
use Rattle.std.proofs.Common.{◌≡◌, ℕ, suc, ◌+◌, Bool, true, false, List, [], ◌∷◌, ◌++◌, take, drop, Some, None, refl, sym, ◌∙◌, arith, append-nil, append_assoc}
use Rattle.std.specs.List.{All, concat}
use Rattle.std.proofs.Math.Seq.{take-add}
use Rattle.std.proofs.lemmas.List.{drop-drop}
use Rattle.script_reader.specs.declared.statement.Block.TheVariants.{Closed}
use Rattle.script_reader.specs.Script.{whole_lines, is_dot_line, statements_in}
use Rattle.script_reader.specs.Coming.{StaysLine}
use Rattle.script_reader.specs.Laws.{BlockEndsAtTheFirstDotLine}

-- the lines of a block join what there is of it, and a dot line closes it
closed_block : (ended : Bool) (text sofar dot : List ℕ) (block lines : List (List ℕ))
    → All (λ line. is_dot_line line ≡ false) block → is_dot_line dot ≡ true
    → statements_in ended (Some (text, sofar)) (block ++ dot ∷ lines)
    ≡ record { line = text; block = Closed (sofar ++ concat block) } ∷ statements_in ended None lines
closed_block ended text sofar dot [] lines inside end = rw (end, append-nil) refl
closed_block ended text sofar dot (line ∷ block) lines inside end =
    let head : is_dot_line line ≡ false = inside 0 line (omega arith) in
    let tail : All (λ l. is_dot_line l ≡ false) block = λ k d below. inside (suc k) d (omega arith) in
    rw (head, closed_block ended text (sofar ++ line) dot block lines tail end, append_assoc) refl

-- so with a block that has just been opened
pub statements_in-block : BlockEndsAtTheFirstDotLine
statements_in-block ended text dot block lines inside end = closed_block ended text [] dot block lines inside end

-- a line that is no dot line joins the block
block_line : (ended : Bool) (text sofar line before behind : List ℕ) → whole_lines ended before ≡ line ∷ whole_lines ended behind
    → is_dot_line line ≡ false
    → statements_in ended (Some (text, sofar)) (whole_lines ended before)
    ≡ statements_in ended (Some (text, sofar ++ line)) (whole_lines ended behind)
block_line ended text sofar line before behind first inside = rw (first, inside) refl

-- the block goes on behind these bytes
abbrev pub IsInBlock : Bool → List ℕ → ℕ → Type 0
IsInBlock ended s len =
    (text : List ℕ) → statements_in ended (Some (text, take len s)) (whole_lines ended (drop len s))
    ≡ statements_in ended (Some (text, [])) (whole_lines ended s)

-- a line further it goes on too
pub block_more : (ended : Bool) (s : List ℕ) (len n : ℕ)
    → whole_lines ended (drop len s) ≡ take n (drop len s) ∷ whole_lines ended (drop n (drop len s))
    → is_dot_line (take n (drop len s)) ≡ false → IsInBlock ended s len → IsInBlock ended s (len + n)
block_more ended s len n first inside sofar text =
    rw (take-add len n s, sym (drop-drop n len s))
    (sym (block_line ended text (take len s) (take n (drop len s)) (drop len s) (drop n (drop len s)) first inside) ∙ sofar text)

-- the block goes on behind these bytes, whatever still comes
abbrev pub StaysInBlock : Bool → List ℕ → ℕ → Type 0
StaysInBlock ended s len =
    ended ≡ false → (text more : List ℕ) (last : Bool)
    → statements_in last (Some (text, take len s)) (whole_lines last (drop len s ++ more))
    ≡ statements_in last (Some (text, [])) (whole_lines last (s ++ more))

-- a line further it goes on too, whatever still comes
pub stays_more : (ended : Bool) (s : List ℕ) (len n : ℕ) → StaysLine ended (drop len s) n
    → is_dot_line (take n (drop len s)) ≡ false → StaysInBlock ended s len → StaysInBlock ended s (len + n)
stays_more ended s len n line inside sofar not_ended text more last =
    rw (take-add len n s, sym (drop-drop n len s))
    (sym (block_line last text (take len s) (take n (drop len s)) (drop len s ++ more) (drop n (drop len s) ++ more) (line not_ended more last) inside)
    ∙ sofar not_ended text more last)
