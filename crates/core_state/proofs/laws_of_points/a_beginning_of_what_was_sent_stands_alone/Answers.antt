use Rattle.core_state.proofs.PointLemmas.{entries-split, points-within, replies-less}
use Rattle.core_state.proofs.laws_of_points.a_beginning_of_what_was_sent_stands_alone.Goals as goal

pub returns-clause-within : goal.returns-clause-within
returns-clause-within c = points-within

pub returns-clause-parts : goal.returns-clause-parts
returns-clause-parts c = entries-split

pub returns-clause-replies : goal.returns-clause-replies
returns-clause-replies c = replies-less
