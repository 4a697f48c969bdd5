use Rattle.core_state.proofs.LaterLemmas.{answers-later}
use Rattle.core_state.proofs.laws_of_answers.later_steps_change_no_answer.Goals as goal

pub returns : goal.returns
returns c = answers-later c.later_changes_are_not_seen.ensures.answer c.accepted_histories_are_settled.ensures.all
    c.outcomes_fit_the_tables.ensures c.every_step_keeps_a_core_sound.ensures
