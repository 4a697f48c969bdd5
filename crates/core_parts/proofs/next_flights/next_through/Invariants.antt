use Rattle.std.proofs.Common.{take}
use Rattle.std.specs.Prelude.{All}
use Rattle.core_parts.specs.Flights.{Through}
use Rattle.core_parts.proofs.next_flights.next_through.Given as goal

abbrev pub invariant-loop-flight : goal.invariant-loop-flight
invariant-loop-flight l = All (λ flight. Through l.filters flight → ⊥) (take l.flight-index l.flights)
