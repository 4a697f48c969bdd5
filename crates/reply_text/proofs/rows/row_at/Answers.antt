use Rattle.std.proofs.Common.{rules}
use Rattle.reply_text.specs.Reading.{row_at}
use Rattle.reply_text.proofs.RowLemmas.{last_cell, no_cell, one_more_cell}
use Rattle.reply_text.proofs.rows.row_at.Goals as goal

pub cells-preserved : goal.cells-preserved
cells-preserved c =
    one_more_cell c.cells.cells _ c.args.bytes.now c.cells._byte-index c.cells.rest.now c.in-Some.behind.now c.in-Some.cell _
    c.cells.invariant c.cells-test.true (rw (← c.in-Ok.ensures, c.in-Some.is, c.if-last.false)) (search rules)

pub returns-then-last : goal.returns-then-last
unfolding row_at
returns-then-last c =
    last_cell c.cells.cells _ c.args.bytes.now c.cells._byte-index c.cells.rest.now c.in-Some.behind.now c.in-Some.cell _
    c.cells.invariant c.cells-test.true (rw (← c.in-Ok.ensures, c.in-Some.is, c.if-last.true)) (search rules)

pub returns-in_default-found : goal.returns-in_default-found
unfolding row_at
returns-in_default-found c =
    no_cell c.cells.cells c.args.bytes.now c.cells._byte-index c.cells.rest.now _
    c.cells.invariant c.cells-test.true (rw (← c.in-Ok.ensures, c.in_default-found.is))
