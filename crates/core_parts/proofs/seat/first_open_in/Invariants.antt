use Rattle.std.proofs.Common.{◌≡◌, false, take}
use Rattle.std.specs.List.{All}
use Rattle.core_parts.specs.Seats.{is_open_in}
use Rattle.core_parts.proofs.seat.first_open_in.Given as goal

abbrev pub invariant-loop-place : goal.invariant-loop-place
invariant-loop-place l = All (λ submitted. is_open_in l.manager submitted ≡ false) (take l.place l.statements)
