use Rattle.std.proofs.Common.{◌<◌, w8, arith}
use Rattle.std.proofs.lemmas.Nat.Bits.{bit_at-trailing_zeros}
use Rattle.pipeline_manager.proofs.sets.least_of.Goals as goal

pub returns-else-set-eq0-clause-some : goal.returns-else-set-eq0-clause-some
returns-else-set-eq0-clause-some c =
    let some : 0 < c.args.set = omega arith in
    (bit_at-trailing_zeros w8 c.args.set some c.ranges.set.fits).1
