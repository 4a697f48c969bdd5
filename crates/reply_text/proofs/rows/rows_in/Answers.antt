use Rattle.std.proofs.Common.{rules}
use Rattle.reply_text.proofs.RowLemmas.{one_more_row}
use Rattle.reply_text.proofs.rows.rows_in.Goals as goal

pub rows-preserved : goal.rows-preserved
rows-preserved c =
    one_more_row c.rows.rows _ c.args.count c.rows._row c.rows.rest.now c.in-Some.behind.now c.in-Some.row _
    c.rows.invariant c.rows-test.true (rw (← c.in-Ok.ensures, c.in-Some.is)) (search rules)
