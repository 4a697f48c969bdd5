use Rattle.std.proofs.Common.{◌≡◌, ◌++◌, drop}
use Rattle.std.specs.Prelude.{flat_map}
use Rattle.reply_text.specs.Text.{row_text}
use Rattle.reply_text.proofs.printing.answer_text.Given as goal

-- what is written, and the text of the rows that are left, are the line and the text of all rows
abbrev pub invariant-loop-row : goal.invariant-loop-row
invariant-loop-row l = l.text ++ flat_map row_text (drop l.row-index l.rows) ≡ l.initial.text ++ flat_map row_text l.rows
