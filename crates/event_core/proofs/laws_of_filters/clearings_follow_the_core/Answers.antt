use Rattle.event_core.proofs.ClearedLemmas.{becomes-cleared, clearing-there}
use Rattle.event_core.proofs.laws_of_filters.clearings_follow_the_core.Goals as goal

pub returns-clause-there : goal.returns-clause-there
returns-clause-there c = clearing-there

pub returns-clause-done : goal.returns-clause-done
returns-clause-done c = becomes-cleared c.quiet_events_leave_a_core.ensures
