use Rattle.std.proofs.Common.{◌≡◌, ℕ, ◌<◌, get_or, length}
use Rattle.std.specs.Prelude.{None}
use Rattle.shared_distributor.specs.Apart.{count_in}
use Rattle.shared_distributor.proofs.going.counts_of.Given as goal

abbrev pub invariant-loop-slot : goal.invariant-loop-slot
invariant-loop-slot l = (length l.counts ≡ 64) × ((slot : ℕ) → slot < l.slot → get_or l.counts slot 0 ≡ count_in (get_or l.own slot None))
