use Rattle.std.proofs.Common.{refl}
use Rattle.core_state.specs.Events.{after_event}
use Rattle.core_state.proofs.story.a_filter_clears_the_bits_of_one_query.Goals as goal

pub returns-clause-second_passed : goal.returns-clause-second_passed
unfolding after_event
returns-clause-second_passed c = refl

pub returns-clause-third_passed : goal.returns-clause-third_passed
unfolding after_event
returns-clause-third_passed c = refl

pub returns-clause-tallies : goal.returns-clause-tallies
unfolding after_event
returns-clause-tallies c = refl
