use Rattle.aggregations.proofs.PartLemmas.{parts_add, parts_commute, values_at_once}
use Rattle.aggregations.proofs.laws.parts_may_come_in_any_order.Goals as goal

pub returns : goal.returns
returns c =
    let order = c.the_least_of_values_ignores_their_order.ensures in
    let add = parts_add order.turns order.commutes order.greatest_turns order.greatest_commutes in
    record {
      commute = parts_commute order.turns order.commutes order.greatest_turns order.greatest_commutes;
      add = add;
      values = values_at_once add;
    }
