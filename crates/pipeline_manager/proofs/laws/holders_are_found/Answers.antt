use Rattle.pipeline_manager.proofs.HolderLemmas.{slot_of-holder, built_of-holder, slot_of-begun}
use Rattle.pipeline_manager.proofs.laws.holders_are_found.Goals as goal

pub returns-clause-slot : goal.returns-clause-slot
returns-clause-slot c = slot_of-holder

pub returns-clause-built : goal.returns-clause-built
returns-clause-built c = built_of-holder

pub returns-clause-begun : goal.returns-clause-begun
returns-clause-begun c = slot_of-begun
