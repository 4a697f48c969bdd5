use Rattle.core_state.proofs.TakingLemmas.{sound-replied}
use Rattle.core_state.proofs.laws_of_queries.a_taken_reply_keeps_a_core_sound.Goals as goal

pub returns : goal.returns
returns c = sound-replied
