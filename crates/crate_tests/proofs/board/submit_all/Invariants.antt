use Rattle.board_lock.specs.Seats.{view_of, IsOutside, IsSameSeat}
use Rattle.board_lock.specs.Small.{IsSameTeam}
use Rattle.crate_tests.proofs.board.submit_all.Given as goal

abbrev pub invariant-loop-statement : goal.invariant-loop-statement
invariant-loop-statement g l = IsSameSeat l.initial.seat l.seat × IsOutside l.seat × IsSameTeam (view_of l.initial.seat) (view_of l.seat)
