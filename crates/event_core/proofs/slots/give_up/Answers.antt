use Rattle.event_core.proofs.AbandonEventLemmas.{seat-written, seats-others}
use Rattle.event_core.proofs.slots.give_up.Goals as goal

pub returns-clause-seat : goal.returns-clause-seat
returns-clause-seat c =
    seat-written c.args.seats.now c.as_mut_slice.result.now c.args.seat c.args.query c.index-as_mut_slice-seat.result c.abandon.new.self
    c.as_mut_slice.ensures.members c.requires.there c.abandon.ensures.abandoned

pub returns-clause-others : goal.returns-clause-others
returns-clause-others c =
    seats-others c.args.seats.now c.as_mut_slice.result.now c.args.seat c.abandon.new.self c.as_mut_slice.ensures.members c.requires.there
