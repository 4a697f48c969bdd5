use Rattle.shared_distributor.proofs.LoopLemmas.{AreTakenFrom}
use Rattle.shared_distributor.proofs.seats.take_from_seats.Given as goal

abbrev pub invariant-loop-k : goal.invariant-loop-k
invariant-loop-k l = AreTakenFrom l.slot l.initial.home l.initial.seats l.home l.seats l.k
