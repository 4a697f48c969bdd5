-- The seat may take another turn, and it sent and took nothing.
use Rattle.board_lock.specs.Seats.{view_of}
use Rattle.worker_gate.specs.Hands.{HasDoneIf}
use Rattle.worker_gate.specs.Turns.{sight_in}
use Rattle.script_run.specs.SeatTurns.{SitsStill, StaysOut}
use Rattle.script_run.proofs.seat_front.SeatFront.next_reply.Given as goal

abbrev pub invariant-turns : goal.invariant-turns
invariant-turns g l = record {
  seat : StaysOut l.board (HasDoneIf l.done) l.fn.self.seat l.self.seat;
  stays : SitsStill (view_of l.fn.self.seat).number (sight_in (view_of l.fn.self.seat)) (sight_in (view_of l.self.seat));
}
