use Rattle.core_state.proofs.StepLemmas.{sound-steps}
use Rattle.core_state.specs.Sound.{empty_core}
use Rattle.core_state.proofs.laws_of_runs.every_core_is_sound.Goals as goal

pub returns-clause-on : goal.returns-clause-on
returns-clause-on c = sound-steps c.every_step_keeps_a_core_sound.ensures

pub returns-clause-from_none : goal.returns-clause-from_none
returns-clause-from_none c settings steps within may =
    sound-steps c.every_step_keeps_a_core_sound.ensures steps (empty_core settings) may (c.an_empty_core_is_sound.ensures settings within)
