-- An exact sum of integers of 64 bits.
use Rattle.std.specs.Prelude.{ℕ, ℤ, pos, neg_ℤ, ◌*◌, ◌^◌, ◌<◌, ◌≤ℤ◌}

-- how many integers were added, and their sum
pub record SumSoFar : Type 0 where
  pub terms : ℕ
  pub total : ℤ

-- no integer was added
abbrev pub no_terms : SumSoFar
no_terms = record { terms = 0; total = pos 0 }

-- so many integers of 64 bits have this sum at most and at least
pub record IsSumOf (terms : ℕ) (total : ℤ) : Type 0 where
  pub few : terms < 2 ^ 32
  pub high : total ≤ℤ pos (terms * 2 ^ 63)
  pub low : neg_ℤ (pos (terms * 2 ^ 63)) ≤ℤ total
