use Rattle.core_state.proofs.StartLemmas.{sound-started}
use Rattle.core_state.proofs.laws_of_slots.a_start_keeps_a_core_sound.Goals as goal

pub returns : goal.returns
returns c = sound-started
