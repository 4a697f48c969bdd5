use Rattle.std.specs.Ordering.{flip_args}
use Rattle.std.proofs.lemmas.Cmp.{back_total}
use Rattle.star_values.specs.Value.{value_cmp}
use Rattle.star_plan.proofs.AnswerLemmas.{flip_same}
use Rattle.star_plan.proofs.FirstLemmas.{commutes, turns}
use Rattle.star_plan.proofs.meaning.the_least_of_values_ignores_their_order.Goals as goal

pub returns : goal.returns
returns c =
    let order = c.values_are_in_order.ensures in
    let back = back_total order.total in
    let back_same = flip_same order.total order.same in
    record {
      turns = turns value_cmp order.total order.same;
      commutes = commutes value_cmp order.total order.same;
      greatest_turns = turns (flip_args value_cmp) back back_same;
      greatest_commutes = commutes (flip_args value_cmp) back back_same;
    }
