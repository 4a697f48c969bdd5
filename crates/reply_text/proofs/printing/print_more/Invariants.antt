use Rattle.std.proofs.Common.{◌≡◌, ◌++◌, drop}
use Rattle.reply_text.specs.Text.{more_text}
use Rattle.reply_text.proofs.printing.print_more.Given as goal

-- what is written, and the cells that are left, are all cells
abbrev pub invariant-loop-cell : goal.invariant-loop-cell
invariant-loop-cell l = l.out ++ more_text (drop l.cell-index l.cells) ≡ l.initial.out ++ more_text l.cells
