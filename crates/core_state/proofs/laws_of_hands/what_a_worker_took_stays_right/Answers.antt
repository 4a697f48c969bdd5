use Rattle.core_state.proofs.HandHeldLemmas.{took-stays}
use Rattle.core_state.proofs.laws_of_hands.what_a_worker_took_stays_right.Goals as goal

pub returns : goal.returns
returns c = took-stays c.accepted_histories_are_settled.ensures.all
