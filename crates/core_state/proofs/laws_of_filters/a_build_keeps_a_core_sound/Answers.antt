use Rattle.core_state.proofs.BuildLemmas.{sound-after_build}
use Rattle.core_state.proofs.laws_of_filters.a_build_keeps_a_core_sound.Goals as goal

pub returns : goal.returns
returns c = sound-after_build
