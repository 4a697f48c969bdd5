use Rattle.std.proofs.Common.{refl}
use Rattle.core_state.specs.Events.{after_event}
use Rattle.core_state.proofs.story.each_query_is_answered_behind_its_last_batch.Goals as goal

pub returns-clause-first_ends : goal.returns-clause-first_ends
unfolding after_event
returns-clause-first_ends c = refl

pub returns-clause-first_waits : goal.returns-clause-first_waits
unfolding after_event
returns-clause-first_waits c = refl

pub returns-clause-first_counts : goal.returns-clause-first_counts
unfolding after_event
returns-clause-first_counts c = refl

pub returns-clause-second_counts : goal.returns-clause-second_counts
unfolding after_event
returns-clause-second_counts c = refl

pub returns-clause-answered : goal.returns-clause-answered
unfolding after_event
returns-clause-answered c = refl

pub returns-clause-slots : goal.returns-clause-slots
unfolding after_event
returns-clause-slots c = refl
