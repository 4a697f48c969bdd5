-- What the seat leaves is what it found.
use Rattle.script_run.proofs.Words.{refl, state_of}
use Rattle.board_lock.specs.Seats.{view_of}
use Rattle.worker_gate.proofs.TurnLemmas.{view-left}
use Rattle.script_run.specs.SeatTurns.{SitsStill}
use Rattle.script_run.proofs.SeatTurnLemmas.{keeps-same, stays-same, stays-then, turn-keeps-hand, turn-stays-ready, turn-tells}
use Rattle.script_run.proofs.seat_ahead.form_turn.Goals as goal

pub leave-requires-clause-keeps : goal.leave-requires-clause-keeps
leave-requires-clause-keeps g c =
    let number = (view_of c.args.seat.now).number in
    let core = c.enter-core.result in
    turn-keeps-hand c.own_steps_keep_a_board.ensures (view_of c.args.seat.now) (view_of c.enter-core.new.seat) core core number
    c.enter-core.ensures.inside.1 refl (keeps-same number core core refl)

pub returns-clause-seat : goal.returns-clause-seat
returns-clause-seat g c =
    let number = (view_of c.args.seat.now).number in
    let core = c.enter-core.result in
    turn-stays-ready c.args.board.now c.args.seat.now c.enter-core.new.seat c.leave.new.seat core core number c.requires
    c.enter-core.ensures.inside.1 c.leave.ensures.outside.1 c.enter-core.ensures.same c.leave.ensures.same c.leave.ensures.outside.0
    c.enter-core.ensures.finds (keeps-same number core core refl) refl

pub returns-clause-stays : goal.returns-clause-stays
returns-clause-stays g c =
    let number = (view_of c.args.seat.now).number in
    let state = state_of c.enter-core.result in
    turn-tells SitsStill stays-then c.args.seat.now c.leave.new.seat c.enter-core.result c.enter-core.result number
    (view-left (view_of c.args.seat.now) (view_of c.enter-core.new.seat) (view_of c.leave.new.seat) c.enter-core.result
    c.enter-core.result c.enter-core.ensures.inside.1 c.leave.ensures.outside.1)
    c.enter-core.ensures.finds refl (stays-same number state state refl)
