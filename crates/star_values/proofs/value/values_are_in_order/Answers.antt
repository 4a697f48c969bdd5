use Rattle.star_values.specs.OrderLaws.{value_cmp-total, value_cmp-equal}
use Rattle.star_values.proofs.value.values_are_in_order.Goals as goal

pub returns-clause-total : goal.returns-clause-total
returns-clause-total c = value_cmp-total

pub returns-clause-same : goal.returns-clause-same
returns-clause-same c = value_cmp-equal
