use Rattle.std.proofs.Common.{arith}
use Rattle.std.proofs.lemmas.Int.{ints}
use Rattle.continuous_scan.proofs.limits.range_of.Goals as goal

pub returns-in-Some-Some : goal.returns-in-Some-Some
returns-in-Some-Some c =
    let low = rw c.in-Some-Some.is-0 at c.checked_sub.ensures in
    let high = rw c.in-Some-Some.is-1 at c.checked_add.ensures in
    record {
      whole = record { some = omega arith; few = omega arith; count = omega (arith, ints) };
      below = omega (arith, ints);
      above = omega (arith, ints);
    }
