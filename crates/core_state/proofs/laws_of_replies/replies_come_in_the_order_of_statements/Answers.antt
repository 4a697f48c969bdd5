use Rattle.core_state.proofs.ReplyLemmas.{in-order, next-first}
use Rattle.core_state.proofs.laws_of_replies.replies_come_in_the_order_of_statements.Goals as goal

pub returns-clause-order : goal.returns-clause-order
returns-clause-order c = in-order

pub returns-clause-next : goal.returns-clause-next
returns-clause-next c = next-first
