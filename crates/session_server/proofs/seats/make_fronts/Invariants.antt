-- As many fronts were made as the first seat has made seats behind those of the workers.
use Rattle.std.proofs.Common.{◌≡◌, ◌+◌, ◌≤◌, length, vec_capacity, vec_len}
use Rattle.board_lock.specs.Seats.{view_of}
use Rattle.script_run.specs.BoardRun.{IsLeader, KnowsSame}
use Rattle.session_server.specs.Server.{AreAtRest}
use Rattle.session_server.proofs.seats.make_fronts.Given as goal

abbrev pub invariant-splits : goal.invariant-splits
invariant-splits l = record {
  leader : IsLeader l.board (l.counter + l.settings.workers) l.first;
  knows : KnowsSame (view_of l.fn.first) (view_of l.first);
  fronts : AreAtRest l.board l.fronts.items;
  count : length l.fronts.items ≡ l.counter;
  len : vec_len l.fronts ≡ l.counter;
  room : l.count ≤ vec_capacity l.fronts;
}
