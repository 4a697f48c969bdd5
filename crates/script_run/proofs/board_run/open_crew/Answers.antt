-- There is a seat for each worker beside the first one.
use Rattle.std.proofs.Common.{arith}
use Rattle.board_lock.specs.Seats.{view_of}
use Rattle.script_run.proofs.BoardSeatLemmas.{knows-new, seated-new}
use Rattle.script_run.proofs.board_run.open_crew.Goals as goal

pub make_seats-requires : goal.make_seats-requires
make_seats-requires c = record {
  leader = c.in_ok-board.ensures.leader;
  room = record {
    room = let most = c.in_ok-board.ensures.most in let seats = c.requires.seats in omega arith;
    seated = seated-new c.args.settings (view_of c.in_ok-board.first) c.args.settings.workers c.in_ok-board.ensures.knows
        (let seats = c.requires.seats in omega arith);
  };
}

pub returns-in-Ok : goal.returns-in-Ok
returns-in-Ok c = record {
  most = c.in_ok-board.ensures.most;
  leader = c.in-Ok.ensures.leader;
  knows = knows-new c.args.settings (view_of c.in_ok-board.first) (view_of c.make_seats.new.first) c.make_seats.ensures.knows
      c.in_ok-board.ensures.knows;
  are_workers = c.in-Ok.ensures.workers;
  count = c.in-Ok.ensures.count;
}
