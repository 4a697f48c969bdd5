-- What the seat finds is what it knew, and in what it leaves it waits for nothing.
use Rattle.board_lock.specs.Seats.{view_of}
use Rattle.worker_gate.proofs.TurnLemmas.{same-then, view-left}
use Rattle.script_run.proofs.SeatTurnLemmas.{turn-due, turn-keeps-hand, turn-lets, turn-stays-ready}
use Rattle.script_run.proofs.seat_turn.let_go_turn.Goals as goal

pub leave-requires-clause-keeps : goal.leave-requires-clause-keeps
leave-requires-clause-keeps g c =
    turn-keeps-hand c.own_steps_keep_a_board.ensures (view_of c.args.seat.now) (view_of c.enter-core.new.seat) c.enter-core.result
    c.drop_pending.new.core c.number-own.result c.enter-core.ensures.inside.1 c.number-own.ensures c.drop_pending.ensures.keeps

pub returns-clause-rest : goal.returns-clause-rest
returns-clause-rest g c =
    let stays = turn-stays-ready c.args.board.now c.args.seat.now c.enter-core.new.seat c.leave.new.seat c.enter-core.result
    c.drop_pending.new.core c.number-own.result c.requires c.enter-core.ensures.inside.1 c.leave.ensures.outside.1
    c.enter-core.ensures.same c.leave.ensures.same c.leave.ensures.outside.0 c.enter-core.ensures.finds c.drop_pending.ensures.keeps
    c.number-own.ensures in
    record {
      ready = stays.out;
      due = turn-due c.args.seat.now c.leave.new.seat c.drop_pending.new.core c.number-own.result
          (view-left (view_of c.args.seat.now) (view_of c.enter-core.new.seat) (view_of c.leave.new.seat) c.enter-core.result
          c.drop_pending.new.core c.enter-core.ensures.inside.1 c.leave.ensures.outside.1) c.number-own.ensures
          c.drop_pending.ensures.idle;
    }

pub returns-clause-same : goal.returns-clause-same
returns-clause-same g c =
    same-then c.args.seat.now c.enter-core.new.seat c.leave.new.seat c.enter-core.ensures.same c.leave.ensures.same

pub returns-clause-lets_go : goal.returns-clause-lets_go
returns-clause-lets_go g c =
    turn-lets c.args.seat.now c.leave.new.seat c.enter-core.result c.drop_pending.new.core c.number-own.result
    (view-left (view_of c.args.seat.now) (view_of c.enter-core.new.seat) (view_of c.leave.new.seat) c.enter-core.result
    c.drop_pending.new.core c.enter-core.ensures.inside.1 c.leave.ensures.outside.1)
    c.enter-core.ensures.finds c.number-own.ensures c.drop_pending.ensures.lets_go
