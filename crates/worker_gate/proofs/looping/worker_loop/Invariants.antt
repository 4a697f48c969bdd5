-- The worker is ready for a turn, by the same seat, and nothing was sent or taken.
use Rattle.board_lock.specs.Seats.{IsSameSeat, view_of}
use Rattle.core_state.specs.Fronts.{Passes}
use Rattle.worker_gate.specs.Turns.{IsReady, sight_in}
use Rattle.worker_gate.proofs.looping.worker_loop.Given as goal

abbrev pub invariant-turns : goal.invariant-turns
invariant-turns g l = record {
  ready : IsReady l.board l.done l.seat;
  same : IsSameSeat l.fn.seat l.seat;
  passes : Passes (sight_in (view_of l.fn.seat)) (sight_in (view_of l.seat));
}
