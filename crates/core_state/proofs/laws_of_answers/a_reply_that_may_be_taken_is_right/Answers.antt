use Rattle.core_state.proofs.AnswerLemmas.{kept-answer, reply-right, waits-open}
use Rattle.core_state.proofs.laws_of_answers.a_reply_that_may_be_taken_is_right.Goals as goal

pub returns-clause-right : goal.returns-clause-right
returns-clause-right c = reply-right c.answers_ignore_the_order_of_rows.ensures.answer

pub returns-clause-kept : goal.returns-clause-kept
returns-clause-kept c = kept-answer c.answers_ignore_the_order_of_rows.ensures.answer

pub returns-clause-waits : goal.returns-clause-waits
returns-clause-waits c = waits-open c.answers_ignore_the_order_of_rows.ensures.answer
