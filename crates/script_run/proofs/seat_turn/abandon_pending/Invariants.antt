-- The seat let go some of the queries that it waited for so far, and all that is lent stayed so.
use Rattle.script_run.proofs.Words.{length, seat_at, state_of}
use Rattle.worker_gate.specs.Left.{LeavesAllLoans}
use Rattle.script_run.proofs.SeatLetLemmas.{IsLettingGo}
use Rattle.script_run.proofs.seat_turn.abandon_pending.Given as goal

abbrev pub invariant-queries : goal.invariant-queries
invariant-queries l = record {
  letting : IsLettingGo l.seat (state_of l.fn.core) (state_of l.core);
  loans : LeavesAllLoans l.fn.core l.core;
}

abbrev pub decreases-queries : goal.decreases-queries
decreases-queries l = length (seat_at (state_of l.core) l.seat).pending
