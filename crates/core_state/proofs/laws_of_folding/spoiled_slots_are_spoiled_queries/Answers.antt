use Rattle.core_state.proofs.HandedLeftLemmas.{attached-after, fed-after, groups-after}
use Rattle.core_state.proofs.HandedSlotLemmas.{none-fed}
use Rattle.core_state.proofs.laws_of_folding.spoiled_slots_are_spoiled_queries.Goals as goal

pub returns-clause-groups : goal.returns-clause-groups
returns-clause-groups c = groups-after c.a_distributor_folds_what_the_core_folds.ensures

pub returns-clause-others : goal.returns-clause-others
returns-clause-others c = attached-after c.a_distributor_folds_what_the_core_folds.ensures

pub returns-clause-fed : goal.returns-clause-fed
returns-clause-fed c = fed-after

pub returns-clause-none : goal.returns-clause-none
returns-clause-none c = none-fed
