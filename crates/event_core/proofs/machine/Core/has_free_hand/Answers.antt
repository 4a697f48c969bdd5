use Rattle.event_core.proofs.Words.{◌∙◌, ap, CoreParts, sym}
use Rattle.event_core.proofs.EnablingLemmas.{free-hand, no-seat}
use Rattle.event_core.proofs.machine.Core.has_free_hand.Goals as goal

pub returns-then-has_seat : goal.returns-then-has_seat
returns-then-has_seat c =
    free-hand c.args.self.now c.args.worker c.as_slice.result.now c.place_held_by.result c.is_none.result
    (c.as_slice.ensures ∙ ap (λ (parts : CoreParts). parts.flights) c.self.view_is) (sym c.place_held_by.ensures.place) c.is_none.ensures
    (c.has_seat.ensures.0 c.if-has_seat.true)

pub returns-else-has_seat : goal.returns-else-has_seat
returns-else-has_seat c = no-seat c.args.self.now c.args.worker c.has_seat.result c.has_seat.ensures c.if-has_seat.false
