use Rattle.event_core.proofs.LivedLemmas.{becomes-reordered}
use Rattle.event_core.proofs.laws_of_filters.orders_follow_the_core.Goals as goal

pub returns : goal.returns
returns c = becomes-reordered c.quiet_events_leave_a_core.ensures
