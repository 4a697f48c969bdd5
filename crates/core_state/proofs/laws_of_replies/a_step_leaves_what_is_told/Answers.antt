use Rattle.core_state.proofs.StepToldLemmas.{told-anew, told-as-before}
use Rattle.core_state.proofs.laws_of_replies.a_step_leaves_what_is_told.Goals as goal

pub returns-clause-kept : goal.returns-clause-kept
returns-clause-kept c = told-as-before

pub returns-clause-added : goal.returns-clause-added
returns-clause-added c = told-anew
