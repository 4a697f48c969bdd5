use Rattle.core_state.proofs.GivenLemmas.{sound-given}
use Rattle.core_state.proofs.laws_of_batches.a_given_batch_keeps_a_core_sound.Goals as goal

pub returns : goal.returns
returns c = sound-given c.accepted_histories_are_settled.ensures.all
