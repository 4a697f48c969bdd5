use Rattle.std.proofs.Common.{◌≡◌}
use Rattle.board_lock.specs.Seats.{IsSameSeat}
use Rattle.board_lock.proofs.seat.BoardLock.spin.Given as goal

abbrev pub invariant-tries : goal.invariant-tries
invariant-tries g l = IsSameSeat l.initial.seat l.seat × (l.seat.seat.me ≡ l.initial.seat.seat.me)
