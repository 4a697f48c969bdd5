use Rattle.event_core.proofs.LivedLemmas.{becomes-released, becomes-reserved}
use Rattle.event_core.proofs.laws_of_slots.slots_follow_the_core.Goals as goal

pub returns-clause-reserve : goal.returns-clause-reserve
returns-clause-reserve c = becomes-reserved c.quiet_events_leave_a_core.ensures

pub returns-clause-release : goal.returns-clause-release
returns-clause-release c = becomes-released c.quiet_events_leave_a_core.ensures
