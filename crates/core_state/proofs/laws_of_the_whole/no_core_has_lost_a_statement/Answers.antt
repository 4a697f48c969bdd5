use Rattle.core_state.proofs.Words.{after_steps, empty_core}
use Rattle.core_state.proofs.laws_of_the_whole.no_core_has_lost_a_statement.Goals as goal

pub returns : goal.returns
returns c settings steps within may =
    c.no_step_loses_a_statement.ensures.sound (after_steps steps (empty_core settings))
    (c.every_core_is_sound.ensures.from_none settings steps within may)
