-- The first seat, those of the workers, and the others.
use Rattle.std.proofs.Common.{arith, subst, sym}
use Rattle.script_run.specs.Home.{IsAtRest}
use Rattle.session_server.proofs.seats.open_server.Goals as goal

pub returns-in-Ok : goal.returns-in-Ok
returns-in-Ok c = record {
  serves = record {
    own = subst (IsAtRest c.in_ok-crew.crew.board) (sym c.new-own.ensures.seat) c.in-Ok.ensures.own;
    are_workers = c.in_ok-crew.ensures.are_workers;
    are_at_rest = c.in-Ok.ensures.fronts;
  };
  count = let many = c.in-Ok.ensures.count in let left = c.seats_left-count.ensures in omega arith;
}
