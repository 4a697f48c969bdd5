use Rattle.std.proofs.Common.{◌==◌, List, length, ap, sym, ◌∙◌}
use Rattle.aggregations.specs.Grouped.{Group}
use Rattle.aggregations.specs.Finish.{answer_from, each_of, group_at, group_end}
use Rattle.aggregations.proofs.EndLemmas.{each-map, groups_end}
use Rattle.aggregations.proofs.OrderLemmas.{ordered}
use Rattle.aggregations.proofs.laws.groups_in_order_end_as_the_answer.Goals as goal

pub returns : goal.returns
returns c =
    let groups = c.groups_are_the_keys_of_the_rows.ensures in
    let order = c.rows_are_in_order.ensures in
    λ query rows keys tallies entries is distinct moved sorted.
    let n = length query.items in
    ap answer_from (sym (each-map (group_end (length rows == 0) query.groups query.items) (group_at n tallies) entries))
    ∙ ap (λ (gs : List Group). answer_from (each_of (group_end (length rows == 0) query.groups query.items) gs))
    (ordered order.total order.same groups.ascending groups.keys query rows keys tallies entries is distinct moved sorted)
    ∙ groups_end c.answers_overflow_by_whole_sums.ensures.cells groups.keys groups.rows query rows
