use Rattle.std.proofs.Common.{refl}
use Rattle.core_state.specs.Events.{after_event}
use Rattle.core_state.proofs.story.a_hand_keeps_the_versions_of_its_carry.Goals as goal

pub returns-clause-first_hand : goal.returns-clause-first_hand
unfolding after_event
returns-clause-first_hand c = refl

pub returns-clause-second_hand : goal.returns-clause-second_hand
unfolding after_event
returns-clause-second_hand c = refl

pub returns-clause-third_hand : goal.returns-clause-third_hand
unfolding after_event
returns-clause-third_hand c = refl

pub returns-clause-third_clears : goal.returns-clause-third_clears
unfolding after_event
returns-clause-third_clears c = refl
