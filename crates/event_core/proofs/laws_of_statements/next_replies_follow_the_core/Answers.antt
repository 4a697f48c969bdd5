use Rattle.event_core.proofs.FirstReplyLemmas.{next-closed, next-groups, next-nothing, next-open, next-reply, next-spoiled}
use Rattle.event_core.proofs.laws_of_statements.next_replies_follow_the_core.Goals as goal

pub returns-clause-nothing : goal.returns-clause-nothing
returns-clause-nothing c = next-nothing

pub returns-clause-reply : goal.returns-clause-reply
returns-clause-reply c = next-reply

pub returns-clause-open : goal.returns-clause-open
returns-clause-open c = next-open

pub returns-clause-closed : goal.returns-clause-closed
returns-clause-closed c = next-closed c.a_reply_that_may_be_taken_is_right.ensures.waits

pub returns-clause-spoiled : goal.returns-clause-spoiled
returns-clause-spoiled c = next-spoiled

pub returns-clause-answered : goal.returns-clause-answered
returns-clause-answered c = next-groups c.a_reply_that_may_be_taken_is_right.ensures.waits
