-- In which order a query is given the positions of its extent.
use Rattle.std.specs.Prelude.{◌≡◌, ℕ, ◌+◌, ◌-◌, ◌≤◌, List, ◌++◌, length, drop, nat_lt, if◌then◌else◌}
use Rattle.std.specs.List.{range_with_len}
use Rattle.continuous_scan.specs.Scanning.{Running}

-- the first position of a lap: where the query started, and 0 where that is not below its extent
abbrev pub lap_start : (start extent : ℕ) → ℕ
lap_start start extent = if nat_lt start extent then start else 0

-- the positions from one on up to the last below the extent, and then those from 0 up to before it
abbrev pub lap_from : (first extent : ℕ) → List ℕ
lap_from first extent = range_with_len first (extent - first) ++ range_with_len 0 first

-- the lap of a query: the positions below its extent in the order in which they come
abbrev pub lap : (start extent : ℕ) → List ℕ
lap start extent = lap_from (lap_start start extent) extent

-- what of a list is still to come, where so many of it are left
abbrev pub still_to_come : (left : ℕ) → List ℕ → List ℕ
still_to_come left positions = drop (length positions - left) positions

-- the next position below an extent that a scan meets which stands at a position
abbrev pub next_below : (position extent : ℕ) → ℕ
next_below position extent = if nat_lt position extent then position else 0

-- how many positions come before one in the lap from `first` on
abbrev pub place_in_lap : (first extent position : ℕ) → ℕ
place_in_lap first extent position =
    if nat_lt position first then extent - first + position else position - first

-- something is left of a query, and the next position below its extent that the scan meets, which
-- stands at this position, is the first of its lap that is not yet cut
pub record IsInStep (position : ℕ) (query : Running) : Type 0 where
  pub some : 1 ≤ query.left
  pub next : place_in_lap (lap_start query.start query.extent) query.extent
      (next_below position query.extent)
      + query.left ≡ query.extent
