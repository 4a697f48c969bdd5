use Rattle.event_core.proofs.SpoilingLemmas.{AreSpoiledBelow}
use Rattle.event_core.proofs.spoiling.spoil_holders.Given as goal

-- the queries that hold the slots so far have no answer, and run no more
abbrev pub invariant-loop-slot : goal.invariant-loop-slot
invariant-loop-slot l = AreSpoiledBelow l.fn.manager l.fn.scan l.slots l.slot l.manager l.scan
