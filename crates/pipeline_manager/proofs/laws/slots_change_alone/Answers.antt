use Rattle.std.proofs.lemmas.List.{get_or-set_same, get_or-set_other}
use Rattle.pipeline_manager.specs.declared.life.SlotState.TheVariants.{Free}
use Rattle.pipeline_manager.proofs.laws.slots_change_alone.Goals as goal

pub returns-clause-written : goal.returns-clause-written
returns-clause-written c = λ slot state lives within. get_or-set_same lives.slots slot state Free within

pub returns-clause-others : goal.returns-clause-others
returns-clause-others c = λ slot other state lives apart. get_or-set_other lives.slots slot other state Free apart
