use Rattle.core_state.proofs.SubmitLemmas.{sound-submitted}
use Rattle.core_state.proofs.laws_of_statements.a_statement_keeps_a_core_sound.Goals as goal

pub returns : goal.returns
returns c = sound-submitted c.a_change_of_rows_keeps_what_is_kept.ensures c.accepted_histories_are_settled.ensures.all c.outcomes_fit_the_tables.ensures
