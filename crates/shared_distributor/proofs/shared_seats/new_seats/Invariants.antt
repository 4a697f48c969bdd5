use Rattle.std.proofs.Common.{◌≡◌, replicate}
use Rattle.shared_distributor.specs.declared.seats.SeatGroups.TheVariants.{NotYet}
use Rattle.shared_distributor.proofs.shared_seats.new_seats.Given as goal

abbrev pub invariant-loop-seat : goal.invariant-loop-seat
invariant-loop-seat l = l.seats ≡ replicate l.seat NotYet
