-- The seat is ready for a turn, it is the same seat, and it sent nothing of the statement, which is the same.
use Rattle.script_run.proofs.Words.{◌≡◌}
use Rattle.board_lock.specs.Seats.{view_of}
use Rattle.worker_gate.specs.Turns.{sight_in}
use Rattle.script_run.specs.SeatTurns.{SitsStill, StaysReady}
use Rattle.script_run.proofs.seat_turn.give_turn.Given as goal

abbrev pub invariant-tries : goal.invariant-tries
invariant-tries g l = record {
  seat : StaysReady l.board l.fn.seat l.seat;
  stays : SitsStill (view_of l.fn.seat).number (sight_in (view_of l.fn.seat)) (sight_in (view_of l.seat));
  statement : l.statement ≡ l.fn.statement;
}
