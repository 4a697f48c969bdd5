-- What the turn tells is told, and where the seat looked, what it found is in its hand, or what it made of that.
use Rattle.board_lock.specs.Seats.{view_of}
use Rattle.worker_gate.specs.Turns.{sight_in}
use Rattle.script_run.proofs.seat_front.ask_and_work.Goals as goal

pub returns-in-Looked-clause-seat : goal.returns-in-Looked-clause-seat
returns-in-Looked-clause-seat g c = record {
  out = record {
    own = c.in-Looked.ensures.seat.out.own;
    outside = c.in-Looked.ensures.seat.out.outside;
    seated = c.in-Looked.ensures.seat.out.seated;
    hand = c.work_outside.ensures.hand;
  };
  same = c.in-Looked.ensures.seat.same;
  team = c.in-Looked.ensures.seat.team;
}

pub returns-in-Looked-clause-tells : goal.returns-in-Looked-clause-tells
returns-in-Looked-clause-tells g c =
    c.work_outside.ensures.tells (view_of c.args.seat.now).number (sight_in (view_of c.args.seat.now)) (sight_in (view_of c.ask_turn.new.seat))
    c.in-Looked.ensures.asks
