use Rattle.core_state.proofs.HandedRoomLemmas.{positions-within, room-attached, room-kept}
use Rattle.core_state.proofs.laws_of_folding.folded_rows_are_few.Goals as goal

pub returns-clause-within : goal.returns-clause-within
returns-clause-within c = positions-within

pub returns-clause-kept : goal.returns-clause-kept
returns-clause-kept c = room-kept c.accepted_histories_are_settled.ensures.all

pub returns-clause-attached : goal.returns-clause-attached
returns-clause-attached c = room-attached c.accepted_histories_are_settled.ensures.all
