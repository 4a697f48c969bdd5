use Rattle.std.proofs.Common.{◌≡◌, ◌++◌, drop}
use Rattle.star_values.proofs.literal_list.copied.Given as goal

-- the copies so far, and the values that are left, are all
abbrev pub invariant-values : goal.invariant-values
invariant-values l = l.copy.items ++ drop l.value-index l.values ≡ l.values
