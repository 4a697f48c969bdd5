use Rattle.std.proofs.Common.{◌≡◌, ℕ, ◌+◌, ◌-◌, vec_len}
use Rattle.aggregations.specs.Cells.{text_at}
use Rattle.aggregations.proofs.texts.grow.Given as goal

-- what grew so far are zeroes, which stood there before
abbrev pub invariant-growing : goal.invariant-growing
invariant-growing l = (other : ℕ) → text_at l.texts.items other ≡ text_at l.fn.texts.items other

abbrev pub decreases-growing : goal.decreases-growing
decreases-growing l = l.index + 1 - vec_len l.texts
