use Rattle.std.proofs.Common.{◌≡◌}
use Rattle.std.specs.Prelude.{None, is_some, slice_index_or}
use Rattle.continuous_scan.specs.Stamped.{numbers_below}
use Rattle.continuous_scan.proofs.slots.roster_of.Given as goal

abbrev pub invariant-loop-slot : goal.invariant-loop-slot
invariant-loop-slot l = l.roster ≡ numbers_below l.slot (λ slot. is_some (slice_index_or l.running slot None))
