use Rattle.core_state.proofs.SinceLemmas.{told-alone, told-stays}
use Rattle.core_state.proofs.laws_of_replies.a_statement_is_told_at_its_submission.Goals as goal

pub returns-clause-told : goal.returns-clause-told
returns-clause-told c = told-stays c.every_step_keeps_a_core_sound.ensures

pub returns-clause-others : goal.returns-clause-others
returns-clause-others c = told-alone c.every_step_keeps_a_core_sound.ensures
