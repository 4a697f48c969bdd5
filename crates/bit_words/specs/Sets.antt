-- A set of numbers is the number whose bits are its members: bit i is 1 where i is in the set.
use Rattle.std.specs.Prelude.{◌≡◌, ℕ, zero, suc, ◌≤◌, ◌^◌, List, [], ◌∷◌, ◌++◌, ◌==◌, if◌then◌else◌, bit_or, bit_xor}
use Rattle.std.specs.Int.{bit_at}

-- the number is in the set
abbrev pub Has : ℕ → ℕ → Type 0
Has set i = bit_at set i ≡ 1

-- the set and this number
abbrev pub with_number : ℕ → ℕ → ℕ
with_number set i = bit_or set (2 ^ i)

-- the set without the numbers of the other: they are put in, and then turned over
abbrev pub without : ℕ → ℕ → ℕ
without set other = bit_xor (bit_or set other) other

-- the number is in the set, and none below it is
abbrev pub IsLeast : ℕ → ℕ → Type 0
IsLeast set i = (Has set i) × ((j : ℕ) → Has set j → i ≤ j)

-- the members below n, each once, ascending
abbrev pub members_below : ℕ → ℕ → List ℕ
members_below zero set = []
members_below (suc n) set = members_below n set ++ (if bit_at set n == 1 then n ∷ [] else [])
