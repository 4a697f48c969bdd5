use Rattle.std.proofs.Common.{◌≡◌, ◌++◌, map, take, drop}
use Rattle.continuous_scan.specs.Range.{cut_slot}
use Rattle.continuous_scan.proofs.slots.cut_slots.Given as goal

abbrev pub invariant-loop-slot : goal.invariant-loop-slot
invariant-loop-slot l = l.running ≡ map (cut_slot l.first l.end) (take l.slot l.fn.running) ++ drop l.slot l.fn.running
