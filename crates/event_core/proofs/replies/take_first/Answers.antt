use Rattle.event_core.proofs.SeatPlaceLemmas.{lent-others, lent-taken}
use Rattle.event_core.proofs.replies.take_first.Goals as goal

pub returns-clause-taken : goal.returns-clause-taken
returns-clause-taken c = λ known.
    lent-taken c.args.seats.now c.as_mut_slice.result.now c.args.seat c.index-as_mut_slice-seat.result c.take.new.self known
    c.as_mut_slice.ensures.members c.requires.there c.index-as_mut_slice-seat.is (c.take.ensures.taken known)

pub returns-clause-others : goal.returns-clause-others
returns-clause-others c =
    lent-others c.args.seats.now c.as_mut_slice.result.now c.args.seat c.take.new.self c.as_mut_slice.ensures.members c.requires.there
