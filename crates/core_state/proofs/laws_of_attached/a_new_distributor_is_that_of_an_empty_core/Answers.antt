use Rattle.core_state.proofs.AttachedStartLemmas.{attached-empty}
use Rattle.core_state.proofs.laws_of_attached.a_new_distributor_is_that_of_an_empty_core.Goals as goal

pub returns : goal.returns
returns c = attached-empty
