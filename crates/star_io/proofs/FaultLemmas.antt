-- What one fault more does to a count.
use Rattle.std.proofs.Common.{◌≡◌, ℕ, ◌+◌, ◌<◌, ◌≤◌, ◌⊎◌, inl, inr, min, arith}
use Rattle.std.proofs.Math.Nat.{min-eq_left, min-eq_right}
use Rattle.std.proofs.lemmas.Bool.{cases_lt}
use Rattle.star_io.specs.Faults.{last_count, next_count, Rose}

-- below the last value a count rises, and there it stands still
rises : (last count : ℕ) → count ≤ last → (count < last) ⊎ (last ≤ count)
    → (count < min (count + 1) last) ⊎ ((count ≡ last) × (min (count + 1) last ≡ last))
rises last count within (inl below) =
    let one : min (count + 1) last ≡ count + 1 = min-eq_left (omega arith) in
    inl (rw one (omega arith))
rises last count within (inr above) = inr (omega arith, min-eq_right (omega arith))

-- a count that stands at its last value at most rises by one fault more
pub one_more : (count : ℕ) → count ≤ last_count → Rose count (next_count count)
one_more count within = rises last_count count within (cases_lt count last_count)
