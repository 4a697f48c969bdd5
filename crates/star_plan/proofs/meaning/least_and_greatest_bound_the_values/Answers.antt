use Rattle.std.proofs.Common.{map, refl}
use Rattle.std.specs.Ordering.{flip_args}
use Rattle.std.proofs.lemmas.Cmp.{back_total}
use Rattle.star_values.specs.Value.{value_cmp}
use Rattle.star_plan.specs.Joined.{value_at}
use Rattle.star_plan.proofs.FirstLemmas.{first-law}
use Rattle.star_plan.proofs.AnswerLemmas.{flip_same}
use Rattle.star_plan.proofs.meaning.least_and_greatest_bound_the_values.Goals as goal

pub returns : goal.returns
returns c =
    let order = c.values_are_in_order.ensures in record {
      least = λ place rows. first-law value_cmp order.total order.same (map (value_at place) rows);
      greatest = λ place rows.
          first-law (flip_args value_cmp) (back_total order.total) (flip_same order.total order.same) (map (value_at place) rows);
      found = λ place row rows. (refl, refl);
    }
