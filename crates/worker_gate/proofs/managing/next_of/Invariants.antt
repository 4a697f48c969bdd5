-- No event of the kinds so far may come.
use Rattle.std.specs.List.{AllWithin}
use Rattle.event_core.specs.Chosen.{NoneMayCome}
use Rattle.event_core.specs.Seen.{state_of}
use Rattle.worker_gate.proofs.managing.next_of.Given as goal

abbrev pub invariant-loop-kind : goal.invariant-loop-kind
invariant-loop-kind l = AllWithin (λ each. NoneMayCome each (state_of l.core)) l.kinds 0 l.kind-index
