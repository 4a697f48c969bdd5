use Rattle.std.proofs.Common.{◌≡◌, [], map, replicate}
use Rattle.event_core.proofs.machine.empty_seats.Given as goal

abbrev pub invariant-seats : goal.invariant-seats
invariant-seats l = map (λ seat. seat.items) l.seats ≡ replicate l.counter []
