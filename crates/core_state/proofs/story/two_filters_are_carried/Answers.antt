use Rattle.std.proofs.Common.{refl}
use Rattle.core_state.specs.Events.{after_event}
use Rattle.core_state.proofs.story.two_filters_are_carried.Goals as goal

pub returns-clause-hand : goal.returns-clause-hand
unfolding after_event
returns-clause-hand c = refl

pub returns-clause-taken : goal.returns-clause-taken
unfolding after_event
returns-clause-taken c = refl

pub returns-clause-first_counts : goal.returns-clause-first_counts
unfolding after_event
returns-clause-first_counts c = refl

pub returns-clause-tallies : goal.returns-clause-tallies
unfolding after_event
returns-clause-tallies c = refl
