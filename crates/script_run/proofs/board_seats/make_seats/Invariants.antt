-- As many seats of workers were made as the first seat has made.
use Rattle.std.proofs.Common.{◌≡◌, ◌≤◌, length, vec_capacity, vec_len}
use Rattle.board_lock.specs.Seats.{view_of}
use Rattle.script_run.specs.BoardRun.{AreWorkers, IsLeader, KnowsSame}
use Rattle.script_run.proofs.board_seats.make_seats.Given as goal

abbrev pub invariant-splits : goal.invariant-splits
invariant-splits l = record {
  leader : IsLeader l.board l.counter l.first;
  knows : KnowsSame (view_of l.fn.first) (view_of l.first);
  workers : AreWorkers l.board l.seats.items;
  count : length l.seats.items ≡ l.counter;
  len : vec_len l.seats ≡ l.counter;
  room : l.count ≤ vec_capacity l.seats;
}
