use Rattle.std.proofs.Common.{◌≡◌, take}
use Rattle.continuous_scan.proofs.slots.copies.Given as goal

abbrev pub invariant-loop-slot : goal.invariant-loop-slot
invariant-loop-slot l = l.copies ≡ take l.slot l.running
