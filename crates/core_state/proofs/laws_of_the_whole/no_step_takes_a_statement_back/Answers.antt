use Rattle.core_state.proofs.WholeStepLemmas.{step-submitted}
use Rattle.core_state.proofs.laws_of_the_whole.no_step_takes_a_statement_back.Goals as goal

pub returns : goal.returns
returns c = step-submitted
