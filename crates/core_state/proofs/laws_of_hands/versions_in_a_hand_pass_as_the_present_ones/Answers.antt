use Rattle.core_state.proofs.HandPresentLemmas.{same-rows}
use Rattle.core_state.proofs.laws_of_hands.versions_in_a_hand_pass_as_the_present_ones.Goals as goal

pub returns : goal.returns
returns c = same-rows c.accepted_histories_are_settled.ensures.all
