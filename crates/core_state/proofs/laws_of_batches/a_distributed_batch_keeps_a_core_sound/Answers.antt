use Rattle.core_state.proofs.SpoiledLemmas.{sound-distributed}
use Rattle.core_state.proofs.laws_of_batches.a_distributed_batch_keeps_a_core_sound.Goals as goal

pub returns : goal.returns
returns c = sound-distributed c.one_row_more_is_folded.ensures
