use Rattle.event_core.proofs.TakenStepLemmas.{taken-steps}
use Rattle.event_core.proofs.laws_of_steps.taken_events_are_steps.Goals as goal

pub returns : goal.returns
returns c = taken-steps
