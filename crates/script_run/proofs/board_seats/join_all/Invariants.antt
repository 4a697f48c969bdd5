-- The seats that are not in the list any more were joined.
use Rattle.std.proofs.Common.{length, vec_len}
use Rattle.board_lock.specs.Seats.{view_of}
use Rattle.script_run.specs.BoardRun.{AreWorkers, HasJoined}
use Rattle.script_run.proofs.board_seats.join_all.Given as goal

abbrev pub invariant-joins : goal.invariant-joins
invariant-joins l = record {
  workers : AreWorkers l.board l.seats.items;
  joined : HasJoined l.board (length l.fn.seats.items) (length l.seats.items) (view_of l.fn.first) l.first;
}

abbrev pub decreases-joins : goal.decreases-joins
decreases-joins l = vec_len l.seats
