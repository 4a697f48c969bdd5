use Rattle.std.proofs.Common.{take}
use Rattle.std.specs.Prelude.{All}
use Rattle.core_parts.specs.Flights.{Wants}
use Rattle.core_parts.proofs.next_flights.next_wanting.Given as goal

abbrev pub invariant-loop-flight : goal.invariant-loop-flight
invariant-loop-flight l = All (λ flight. Wants l.filters flight → ⊥) (take l.flight-index l.flights)
