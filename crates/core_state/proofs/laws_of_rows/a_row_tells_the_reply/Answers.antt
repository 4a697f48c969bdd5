use Rattle.core_state.proofs.RowReplyLemmas.{row-tells}
use Rattle.core_state.proofs.laws_of_rows.a_row_tells_the_reply.Goals as goal

pub returns : goal.returns
returns c = row-tells c.later_changes_are_not_seen.ensures.answer c.accepted_histories_are_settled.ensures.all
    c.accepted_histories_are_settled.ensures.next c.outcomes_fit_the_tables.ensures c.a_reply_that_may_be_taken_is_right.ensures.right
