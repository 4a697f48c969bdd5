use Rattle.std.proofs.Common.{ap, ◌∙◌}
use Rattle.aggregations.specs.Absorbing.{absorbed}
use Rattle.aggregations.specs.Grouped.{Grouped}
use Rattle.aggregations.proofs.AbsorbLemmas.{rows_behind}
use Rattle.aggregations.proofs.ApartLemmas.{keys_known, known_apart, known_from, rows_from, rows_swap}
use Rattle.aggregations.proofs.laws.rows_may_be_folded_apart.Goals as goal

pub returns : goal.returns
returns c =
    let law = c.parts_may_come_in_any_order.ensures in
    record {
      absorbed = λ rows other groups own is. ap (λ (o : Grouped). absorbed o groups) is ∙ rows_behind law.commute law.add rows groups own;
      swap = rows_swap law.commute;
      keys = keys_known;
      first = λ rows from groups first front. (rows_from rows from groups first front, known_from rows from groups first front);
      known = known_apart;
    }
