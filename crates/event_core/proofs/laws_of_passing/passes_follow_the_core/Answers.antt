use Rattle.event_core.proofs.PassedAllLemmas.{all-pass}
use Rattle.event_core.proofs.laws_of_passing.passes_follow_the_core.Goals as goal

pub returns : goal.returns
returns c = all-pass c.quiet_events_leave_a_core.ensures
