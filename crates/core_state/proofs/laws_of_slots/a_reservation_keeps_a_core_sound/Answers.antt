use Rattle.core_state.proofs.ReserveLemmas.{sound-after_reserving}
use Rattle.core_state.proofs.laws_of_slots.a_reservation_keeps_a_core_sound.Goals as goal

pub returns : goal.returns
returns c = sound-after_reserving
