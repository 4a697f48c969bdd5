use Rattle.std.proofs.Common.{refl}
use Rattle.core_state.specs.Events.{after_event}
use Rattle.core_state.proofs.story.carried_batches_count_as_taken_ones.Goals as goal

pub returns-clause-first_counts : goal.returns-clause-first_counts
unfolding after_event
returns-clause-first_counts c = refl

pub returns-clause-second_counts : goal.returns-clause-second_counts
unfolding after_event
returns-clause-second_counts c = refl

pub returns-clause-tallies : goal.returns-clause-tallies
unfolding after_event
returns-clause-tallies c = refl

pub returns-clause-same : goal.returns-clause-same
unfolding after_event
returns-clause-same c = refl
