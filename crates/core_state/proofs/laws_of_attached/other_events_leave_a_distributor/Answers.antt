use Rattle.core_state.proofs.AttachedEventLemmas.{attached-event}
use Rattle.core_state.proofs.AttachedOverLemmas.{attached-taking, attached-wants}
use Rattle.core_state.proofs.laws_of_attached.other_events_leave_a_distributor.Goals as goal

pub returns-clause-event : goal.returns-clause-event
returns-clause-event c = attached-event

pub returns-clause-wants : goal.returns-clause-wants
returns-clause-wants c = attached-wants

pub returns-clause-taken : goal.returns-clause-taken
returns-clause-taken c = attached-taking
