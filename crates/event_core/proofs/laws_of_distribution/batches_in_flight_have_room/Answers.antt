use Rattle.event_core.proofs.Words.{All, state_of, subst, sym}
use Rattle.distributor.specs.Slots.{HaveRoom}
use Rattle.event_core.proofs.DistributedLemmas.{batch-frame, batch-within, seen, seen-among}
use Rattle.event_core.proofs.laws_of_distribution.batches_in_flight_have_room.Goals as goal

pub returns-clause-within : goal.returns-clause-within
returns-clause-within c = batch-within

pub returns-clause-room : goal.returns-clause-room
returns-clause-room c parts place flight core is =
    subst (All (HaveRoom flight.batch.count)) (sym core.attached)
    (c.folded_rows_are_few.ensures.attached (state_of parts) (seen parts flight) core.sound (seen-among parts place flight is))

pub returns-clause-frame : goal.returns-clause-frame
returns-clause-frame c = batch-frame
