use Rattle.core_state.proofs.AbandonLemmas.{sound-wanting}
use Rattle.core_state.proofs.laws_of_queries.a_query_without_memory_keeps_a_core_sound.Goals as goal

pub returns : goal.returns
returns c = sound-wanting
