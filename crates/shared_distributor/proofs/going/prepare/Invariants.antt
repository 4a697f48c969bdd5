use Rattle.shared_distributor.proofs.LoopLemmas.{AreReadyTo, HaveMovedTo}
use Rattle.shared_distributor.proofs.going.prepare.Given as goal

abbrev pub invariant-loop-slot : goal.invariant-loop-slot
invariant-loop-slot l =
    HaveMovedTo l.initial.home l.initial.own l.home l.own l.slot × AreReadyTo l.slots l.home l.own l.slot
