use Rattle.event_core.proofs.EventsSubmitLemmas.{stays}
use Rattle.event_core.proofs.statements.reserve_at.Goals as goal

pub returns-clause-statements : goal.returns-clause-statements
returns-clause-statements c =
    stays c.args.seats.now c.as_mut_slice.result.now c.args.seat c.index-as_mut_slice-seat.result c.reserve.new.self
    c.as_mut_slice.ensures.members c.reserve.ensures.items
