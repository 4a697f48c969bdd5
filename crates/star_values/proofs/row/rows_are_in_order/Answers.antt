use Rattle.star_values.specs.OrderLaws.{row_cmp-total, row_cmp-equal, row_cmp-decides}
use Rattle.star_values.proofs.row.rows_are_in_order.Goals as goal

pub returns-clause-total : goal.returns-clause-total
returns-clause-total c = row_cmp-total

pub returns-clause-same : goal.returns-clause-same
returns-clause-same c = row_cmp-equal

pub returns-clause-equal : goal.returns-clause-equal
returns-clause-equal c = row_cmp-decides
