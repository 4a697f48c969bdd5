use Rattle.std.proofs.Common.{◌≡◌, ◌++◌, vec_len}
use Rattle.aggregations.specs.Finish.{numbered_from}
use Rattle.aggregations.proofs.ordered.numbered.Given as goal

-- the entries so far, and those of the keys that are left, are all
abbrev pub invariant-loop-key : goal.invariant-loop-key
invariant-loop-key l = l.entries.items ++ numbered_from (vec_len l.entries) l.key-iterator ≡ numbered_from 0 l.fn.keys.keys
