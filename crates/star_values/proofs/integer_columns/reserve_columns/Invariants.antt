use Rattle.std.proofs.Common.{◌≡◌}
use Rattle.star_values.proofs.integer_columns.reserve_columns.Given as goal

abbrev pub invariant-loop-number : goal.invariant-loop-number
invariant-loop-number l = l.columns ≡ l.initial.columns
