use Rattle.std.proofs.Common.{refl}
use Rattle.filter_order.specs.Rates.{number_cmp}
use Rattle.core_state.specs.Events.{after_event}
use Rattle.core_state.proofs.story.a_carried_batch_keeps_its_order.Goals as goal

pub returns-clause-turned : goal.returns-clause-turned
unfolding after_event number_cmp
returns-clause-turned c = refl

pub returns-clause-flight : goal.returns-clause-flight
unfolding after_event
returns-clause-flight c = refl

pub returns-clause-counts : goal.returns-clause-counts
unfolding after_event
returns-clause-counts c = refl

pub returns-clause-all_tallies : goal.returns-clause-all_tallies
unfolding after_event
returns-clause-all_tallies c = refl

pub returns-clause-again : goal.returns-clause-again
unfolding after_event number_cmp
returns-clause-again c = refl

pub returns-clause-again_tallies : goal.returns-clause-again_tallies
unfolding after_event number_cmp
returns-clause-again_tallies c = refl
