use Rattle.event_core.proofs.EventsSubmitLemmas.{stands}
use Rattle.event_core.proofs.statements.stand.Goals as goal

pub returns : goal.returns
returns c =
    stands c.args.seats.now c.as_mut_slice.result.now c.args.seat c.index-as_mut_slice-seat.result c.submit.new.self
    (record { number = c.args.number; standing = c.args.standing }) c.requires.there c.as_mut_slice.ensures.members
    c.submit.ensures
