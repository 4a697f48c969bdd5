use Rattle.std.proofs.Common.{refl}
use Rattle.star_plan.proofs.AnswerLemmas.{groups_ascend, groups_are_keys, rows-law}
use Rattle.star_plan.proofs.meaning.groups_are_the_keys_of_the_rows.Goals as goal

pub returns : goal.returns
returns c =
    let order = c.values_are_in_order.ensures in record {
      ascending = groups_ascend order.total order.same;
      keys = groups_are_keys order.total order.same;
      alone = λ rows. refl;
      rows = rows-law order.total order.same;
    }
