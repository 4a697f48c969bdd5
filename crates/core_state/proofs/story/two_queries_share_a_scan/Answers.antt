use Rattle.std.proofs.Common.{refl}
use Rattle.core_state.specs.Events.{after_event}
use Rattle.core_state.proofs.story.two_queries_share_a_scan.Goals as goal

pub returns-clause-first_cut : goal.returns-clause-first_cut
unfolding after_event
returns-clause-first_cut c = refl

pub returns-clause-second_started : goal.returns-clause-second_started
unfolding after_event
returns-clause-second_started c = refl

pub returns-clause-second_cut : goal.returns-clause-second_cut
unfolding after_event
returns-clause-second_cut c = refl

pub returns-clause-third_cut : goal.returns-clause-third_cut
unfolding after_event
returns-clause-third_cut c = refl

pub returns-clause-frames : goal.returns-clause-frames
unfolding after_event
returns-clause-frames c = refl
