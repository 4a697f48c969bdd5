use Rattle.std.proofs.Common.{◌≡◌, take}
use Rattle.std.specs.Prelude.{sum}
use Rattle.make_load.specs.Summary.{capped}
use Rattle.make_load.proofs.counts.byte_sum.Given as goal

-- the sum so far is that of the bytes so far
abbrev pub invariant-loop-byte : goal.invariant-loop-byte
invariant-loop-byte l = l.sum ≡ capped (sum (take l.byte-index l.bytes))
