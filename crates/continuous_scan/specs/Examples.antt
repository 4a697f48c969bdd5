-- Small scans, whose cuts are computed.
use Rattle.std.specs.Prelude.{ℕ}
use Rattle.star_plan.specs.declared.star_query.StarQuery.{StarQuery}
use Rattle.continuous_scan.specs.Scanning.{Scanning}
use Rattle.continuous_scan.specs.Range.{new_scan, after_start, after_cut, first_in, end_in}

-- the first position of the next cut, and the one behind its last
abbrev pub range_of : (length size : ℕ) → Scanning → ℕ × ℕ
range_of length size scan = (first_in length scan, end_in length size scan)

-- a scan of one slot in which a query runs over all of a table
abbrev pub one_over : StarQuery → (length : ℕ) → Scanning
one_over query length = after_start 0 query 1 length length (new_scan 1)

-- three queries over five rows: the second starts behind three of them, and the third at the end
abbrev pub second_of_three : StarQuery → Scanning
second_of_three query =
    after_start 1 query 1 5 5 (after_cut 5 3 (after_start 0 query 1 5 5 (new_scan 3)))

-- these three, once the third has started behind a cut up to the end of the rows
abbrev pub third_of_three : StarQuery → Scanning
third_of_three query = after_start 2 query 1 5 5 (after_cut 5 4 (second_of_three query))
