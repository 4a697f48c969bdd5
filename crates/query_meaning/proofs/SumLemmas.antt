-- Sums of integers of 64 bits.
use Rattle.std.proofs.Common.{◌≡◌, ℕ, ℤ, ◌+◌, ◌^◌, ◌<◌, ◌+ℤ◌, arith}
use Rattle.std.specs.Prelude.{FitsSigned}
use Rattle.std.specs.Int.{w64, w128}
use Rattle.std.proofs.lemmas.Int.{ints}
use mir.Val.{to_z, of_z}
use Rattle.query_meaning.specs.Summed.{IsSumOf}

-- one integer more
pub one_more : (terms : ℕ) (total n : ℤ) → terms + 1 < 2 ^ 32 → IsSumOf terms total → FitsSigned w64 n → IsSumOf (terms + 1) (total +ℤ n)
one_more terms total n few is fits =
    let high = is.high in let low = is.low in
    record { few = few; high = omega (arith, ints); low = omega (arith, ints) }

-- the sum that is computed
pub added : (terms : ℕ) (total n : ℤ) → IsSumOf terms total → FitsSigned w64 n
    → to_z w128 (of_z w128 (to_z w128 (of_z w128 total) +ℤ to_z w128 (of_z w128 (to_z w64 (of_z w64 n))))) ≡ total +ℤ n
added terms total n is fits =
    let high = is.high in let low = is.low in let few = is.few in
    omega (arith, ints)
