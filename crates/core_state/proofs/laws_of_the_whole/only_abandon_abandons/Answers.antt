use Rattle.core_state.proofs.AbandonedLemmas.{abandons-step}
use Rattle.core_state.proofs.laws_of_the_whole.only_abandon_abandons.Goals as goal

pub returns : goal.returns
returns c = abandons-step
