use Rattle.core_state.proofs.ClearLemmas.{sound-cleared}
use Rattle.core_state.proofs.laws_of_filters.a_clearing_keeps_a_core_sound.Goals as goal

pub returns : goal.returns
returns c = sound-cleared
