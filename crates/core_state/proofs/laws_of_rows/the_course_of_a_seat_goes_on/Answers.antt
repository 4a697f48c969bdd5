use Rattle.core_state.proofs.FrontLemmas.{goes-lost, goes-passes, goes-submits, goes-takes, goes-then}
use Rattle.core_state.proofs.laws_of_rows.the_course_of_a_seat_goes_on.Goals as goal

pub returns-clause-behind : goal.returns-clause-behind
returns-clause-behind c = goes-then

pub returns-clause-passes : goal.returns-clause-passes
returns-clause-passes c = goes-passes

pub returns-clause-submits : goal.returns-clause-submits
returns-clause-submits c = goes-submits

pub returns-clause-lost : goal.returns-clause-lost
returns-clause-lost c = goes-lost

pub returns-clause-takes : goal.returns-clause-takes
returns-clause-takes c = goes-takes
