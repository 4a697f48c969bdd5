use Rattle.std.proofs.Common.{refl}
use Rattle.core_state.specs.Events.{after_event}
use Rattle.core_state.proofs.story.batches_are_carried.Goals as goal

pub returns-clause-first_flight : goal.returns-clause-first_flight
unfolding after_event
returns-clause-first_flight c = refl

pub returns-clause-second_flight : goal.returns-clause-second_flight
unfolding after_event
returns-clause-second_flight c = refl

pub returns-clause-third_flight : goal.returns-clause-third_flight
unfolding after_event
returns-clause-third_flight c = refl
