use Rattle.event_core.proofs.Words.{◌≡◌, arith, Flight, is_none, None, Option, refl, Some, sym, true}
use Rattle.core_parts.proofs.NextFlightLemmas.{find-apart}
use Rattle.event_core.proofs.next_parts.next_idle.Goals as goal

-- what is told to be nothing is
none-told : {X : Type 0} (o : Option X) → is_none o ≡ true → o ≡ None
none-told None told = refl
none-told (Some x) told = cc

pub returns-then-is_idle-clause-some : goal.returns-then-is_idle-clause-some
returns-then-is_idle-clause-some c =
    find-apart (λ (flight : Flight). flight.hand ≡ None) c.args.flights.now c.loop-flight.flight-index c.number.result c.flight-item.result
    c.requires.apart (omega arith) c.flight-item.is c.number.ensures (none-told _ (sym c.if-is_idle.ensures))
