use Rattle.core_state.proofs.CarryLemmas.{sound-carried}
use Rattle.core_state.proofs.laws_of_batches.a_carried_batch_keeps_a_core_sound.Goals as goal

pub returns : goal.returns
returns c = sound-carried
