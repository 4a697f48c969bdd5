use Rattle.std.proofs.Common.{◌≡◌, drop}
use Rattle.reply_text.specs.Reading.{cells_in, with_front}
use Rattle.reply_text.proofs.rows.row_at.Given as goal

-- the cells so far, in front of those of the rest, are the row
abbrev pub invariant-cells : goal.invariant-cells
invariant-cells l = with_front l.cells (cells_in (drop l._byte-index l.bytes) l.rest) ≡ cells_in l.bytes l.bytes
