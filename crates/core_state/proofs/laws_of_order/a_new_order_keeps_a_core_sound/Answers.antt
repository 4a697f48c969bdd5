use Rattle.core_state.proofs.ReorderLemmas.{sound-reordered}
use Rattle.core_state.proofs.laws_of_order.a_new_order_keeps_a_core_sound.Goals as goal

pub returns : goal.returns
returns c = sound-reordered
