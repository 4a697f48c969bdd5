use Rattle.filter_order.proofs.NumberLemmas.{one_order}
use Rattle.filter_order.proofs.laws.orders_by_drop_rate_are_equal.Goals as goal

pub returns : goal.returns
returns c = one_order
