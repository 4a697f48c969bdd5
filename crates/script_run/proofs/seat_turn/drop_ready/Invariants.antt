-- The seat took some of the replies that are there so far, and all that is lent stayed so.
use Rattle.script_run.proofs.Words.{length, seat_at, state_of}
use Rattle.worker_gate.specs.Left.{LeavesAllLoans}
use Rattle.script_run.proofs.SeatLetLemmas.{IsDropping}
use Rattle.script_run.proofs.seat_turn.drop_ready.Given as goal

abbrev pub invariant-replies : goal.invariant-replies
invariant-replies l = record {
  dropping : IsDropping l.seat (state_of l.fn.core) (state_of l.core);
  loans : LeavesAllLoans l.fn.core l.core;
}

abbrev pub decreases-replies : goal.decreases-replies
decreases-replies l = length (seat_at (state_of l.core) l.seat).pending
