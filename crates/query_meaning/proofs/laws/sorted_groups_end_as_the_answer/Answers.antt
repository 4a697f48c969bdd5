use Rattle.query_meaning.proofs.EndLemmas.{sorted_answer}
use Rattle.query_meaning.proofs.laws.sorted_groups_end_as_the_answer.Goals as goal

pub returns : goal.returns
returns c =
    let groups = c.groups_are_the_keys_of_the_rows.ensures in
    let order = c.rows_are_in_order.ensures in
    sorted_answer c.answers_overflow_by_whole_sums.ensures.cells groups.ascending groups.keys groups.rows order.total order.same
