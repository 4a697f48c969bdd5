use Rattle.core_state.proofs.laws_of_the_whole.no_step_loses_a_statement.Goals as goal

pub returns-clause-step : goal.returns-clause-step
returns-clause-step c = λ step state may sound all k d low.
    let now = (c.every_step_keeps_a_core_sound.ensures step state may sound).seats in (now.each k d low).whole

pub returns-clause-sound : goal.returns-clause-sound
returns-clause-sound c = λ state sound k d low. (sound.seats.each k d low).whole
