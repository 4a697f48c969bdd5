use Rattle.core_state.proofs.WholeStepLemmas.{step-asked}
use Rattle.core_state.proofs.laws_of_the_whole.no_step_changes_what_is_asked.Goals as goal

pub returns : goal.returns
returns c = step-asked
