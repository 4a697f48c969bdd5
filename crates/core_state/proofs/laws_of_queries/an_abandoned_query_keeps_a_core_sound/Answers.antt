use Rattle.core_state.proofs.AbandonLemmas.{sound-abandoned}
use Rattle.core_state.proofs.laws_of_queries.an_abandoned_query_keeps_a_core_sound.Goals as goal

pub returns : goal.returns
returns c = sound-abandoned
