use Rattle.core_state.proofs.CutLemmas.{sound-cut}
use Rattle.core_state.proofs.laws_of_the_scan.a_cut_keeps_a_core_sound.Goals as goal

pub returns : goal.returns
returns c = sound-cut c.accepted_histories_are_settled.ensures.all
