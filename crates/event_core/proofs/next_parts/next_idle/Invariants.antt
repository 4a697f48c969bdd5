use Rattle.event_core.proofs.Words.{◌≡◌, All, None, take}
use Rattle.event_core.proofs.next_parts.next_idle.Given as goal

abbrev pub invariant-loop-flight : goal.invariant-loop-flight
invariant-loop-flight l = All (λ flight. flight.hand ≡ None → ⊥) (take l.flight-index l.flights)
