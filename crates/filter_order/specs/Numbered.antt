-- How batches, versions and statements get their numbers.
use Rattle.std.specs.Prelude.{ℕ, ◌+◌, ◌==◌, not, nat_lt, List, length, find, min, if◌then◌else◌}
use Rattle.std.specs.List.{list_any, range_with_len}
use Rattle.std.specs.Option.{option_map_or}

-- the last number that is given, and the greatest value of a count
abbrev pub last_number : ℕ
last_number = 18446744073709551615

-- the least number that is not among these
abbrev pub least_unused : List ℕ → ℕ
least_unused used =
    option_map_or (λ number. number)
    (find (λ number. not (list_any (λ other. other == number) used))
    (range_with_len 0 (length used + 1)))
    0

-- the number after the last one that was given; once the numbers have run out,
-- the least that is not used
abbrev pub next_number : (last : ℕ) → (used : List ℕ) → ℕ
next_number last used = if nat_lt last last_number then last + 1 else least_unused used

-- the last number that was given, after one more
abbrev pub last_after : (last : ℕ) → ℕ
last_after last = min (last + 1) last_number

-- a count of some more, which stays at its greatest value
abbrev pub counted : (count more : ℕ) → ℕ
counted count more = min (count + more) last_number
