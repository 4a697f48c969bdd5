use Rattle.std.specs.Vec.Iter.{into_iter_items}
use Rattle.std.proofs.Common.{◌≡◌}
use Rattle.event_core.specs.CoreParts.{beside_of}
use Rattle.event_core.specs.Seen.{state_of}
use Rattle.event_core.proofs.TookLemmas.{AreTaken}
use Rattle.event_core.proofs.machine.Core.run_events.Given as goal

abbrev pub invariant-events : goal.invariant-events
invariant-events l =
    AreTaken l.at l.fn.events.items (into_iter_items l.event-iterator) (state_of l.fn.self) (state_of l.self)
    × (beside_of l.self ≡ beside_of l.fn.self)
