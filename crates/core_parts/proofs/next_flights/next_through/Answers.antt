use Rattle.std.proofs.Common.{refl, arith}
use Rattle.core_parts.specs.Flights.{Through}
use Rattle.core_parts.proofs.NextFlightLemmas.{find-apart}
use Rattle.core_parts.proofs.next_flights.next_through.Goals as goal

pub returns-then-is_through-clause-some : goal.returns-then-is_through-clause-some
returns-then-is_through-clause-some c =
    find-apart (Through c.args.filters.now) c.args.flights.now c.loop-flight.flight-index c.number.result c.flight-item.result
    c.requires.apart (omega arith) c.flight-item.is c.number.ensures (c.if-is_through.ensures.0 refl)
