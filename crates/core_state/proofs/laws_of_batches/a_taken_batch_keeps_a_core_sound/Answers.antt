use Rattle.core_state.proofs.TakeLemmas.{sound-taken}
use Rattle.core_state.proofs.laws_of_batches.a_taken_batch_keeps_a_core_sound.Goals as goal

pub returns : goal.returns
returns c = sound-taken
