use Rattle.core_state.proofs.AcceptedRowLemmas.{accepted-given}
use Rattle.core_state.proofs.laws_of_taken.a_seat_alone_has_the_queries_of_the_core.Goals as goal

pub returns : goal.returns
returns c = accepted-given
