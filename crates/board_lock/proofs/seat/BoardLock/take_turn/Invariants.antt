use Rattle.std.proofs.Common.{◌≡◌}
use Rattle.board_lock.specs.Seats.{IsSameSeat}
use Rattle.board_lock.proofs.seat.BoardLock.take_turn.Given as goal

abbrev pub invariant-loop : goal.invariant-loop
invariant-loop g l = IsSameSeat l.initial.seat l.seat × (l.seat.seat.me ≡ l.initial.seat.seat.me)
