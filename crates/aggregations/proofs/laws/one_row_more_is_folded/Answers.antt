use Rattle.aggregations.proofs.FoldLemmas.{one_more}
use Rattle.aggregations.proofs.laws.one_row_more_is_folded.Goals as goal

pub returns : goal.returns
returns c =
    let cells = c.cells_take_one_row_more.ensures in
    one_more c.groups_take_one_row_more.ensures.rows cells.sum cells.least cells.greatest
