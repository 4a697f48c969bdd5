use Rattle.core_state.proofs.FinishLemmas.{sound-finished}
use Rattle.core_state.proofs.laws_of_slots.a_finish_keeps_a_core_sound.Goals as goal

pub returns : goal.returns
returns c = sound-finished
