use Rattle.core_parts.specs.Seats.{AreInTurn}
use Rattle.core_parts.proofs.seat.first_waited.Given as goal

abbrev pub invariant-loop-place : goal.invariant-loop-place
invariant-loop-place l = AreInTurn l.place l.statements
