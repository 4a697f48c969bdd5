use Rattle.event_core.proofs.HandLemmas.{becomes-carried, becomes-given, becomes-taken, hand-apart, not-passed}
use Rattle.event_core.proofs.laws_of_batches.hands_follow_the_core.Goals as goal

pub returns-clause-taken : goal.returns-clause-taken
returns-clause-taken c = becomes-taken c.quiet_events_leave_a_core.ensures

pub returns-clause-carried : goal.returns-clause-carried
returns-clause-carried c = becomes-carried c.quiet_events_leave_a_core.ensures

pub returns-clause-may : goal.returns-clause-may
returns-clause-may c = not-passed

pub returns-clause-apart : goal.returns-clause-apart
returns-clause-apart c = hand-apart

pub returns-clause-given : goal.returns-clause-given
returns-clause-given c = becomes-given c.quiet_events_leave_a_core.ensures
