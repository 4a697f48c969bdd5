use Rattle.core_state.proofs.ReleaseLemmas.{sound-released}
use Rattle.core_state.proofs.laws_of_slots.a_release_keeps_a_core_sound.Goals as goal

pub returns : goal.returns
returns c = sound-released
