-- What the seat finds is what it knew, and what it leaves is that but for what it waited for.
use Rattle.script_run.proofs.Words.{subst, sym}
use Rattle.board_lock.specs.Seats.{view_of}
use Rattle.worker_gate.proofs.TurnLemmas.{view-left}
use Rattle.script_run.specs.Home.{LeftClosing}
use Rattle.script_run.proofs.SeatTurnLemmas.{turn-keeps-hand, turn-leaves, turn-stays-ready}
use Rattle.script_run.proofs.seat_turn.end_turn.Goals as goal

pub leave-requires-clause-keeps : goal.leave-requires-clause-keeps
leave-requires-clause-keeps g c =
    turn-keeps-hand c.own_steps_keep_a_board.ensures (view_of c.args.seat.now) (view_of c.enter-core.new.seat) c.enter-core.result
    c.let_go.new.core c.number-own.result c.enter-core.ensures.inside.1 c.number-own.ensures
    c.let_go.ensures.keeps

pub returns-clause-seat : goal.returns-clause-seat
returns-clause-seat g c =
    turn-stays-ready c.args.board.now c.args.seat.now c.enter-core.new.seat c.leave.new.seat c.enter-core.result c.let_go.new.core
    c.number-own.result c.requires c.enter-core.ensures.inside.1 c.leave.ensures.outside.1 c.enter-core.ensures.same c.leave.ensures.same
    c.leave.ensures.outside.0 c.enter-core.ensures.finds
    c.let_go.ensures.keeps c.number-own.ensures

pub returns-clause-leaves : goal.returns-clause-leaves
returns-clause-leaves g c =
    turn-leaves c.args.seat.now c.leave.new.seat c.enter-core.result c.let_go.new.core c.number-own.result
    (view-left (view_of c.args.seat.now) (view_of c.enter-core.new.seat) (view_of c.leave.new.seat) c.enter-core.result
    c.let_go.new.core c.enter-core.ensures.inside.1 c.leave.ensures.outside.1)
    c.enter-core.ensures.finds c.number-own.ensures c.let_go.ensures.abandons

pub returns-clause-closing : goal.returns-clause-closing
returns-clause-closing g c =
    subst LeftClosing
    (sym (view-left (view_of c.args.seat.now) (view_of c.enter-core.new.seat) (view_of c.leave.new.seat) c.enter-core.result
    c.let_go.new.core c.enter-core.ensures.inside.1 c.leave.ensures.outside.1)) c.let_go.ensures.closing
