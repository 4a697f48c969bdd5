use Rattle.shared_distributor.proofs.LoopLemmas.{HaveLandedTo}
use Rattle.shared_distributor.proofs.landing.take_home.Given as goal

abbrev pub invariant-loop-slot : goal.invariant-loop-slot
invariant-loop-slot l = HaveLandedTo l.lost l.spoiled l.initial.home l.lent.groups.value l.initial.own l.home l.own l.slot
