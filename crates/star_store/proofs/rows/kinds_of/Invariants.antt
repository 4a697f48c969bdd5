use Rattle.std.proofs.Common.{◌≡◌, ◌≤◌, ◌++◌, drop, length, vec_len, vec_capacity}
use Rattle.star_plan.specs.Columns.{kinds_of}
use Rattle.star_store.proofs.rows.kinds_of.Given as goal

-- the kinds so far, and those of the columns that are left, are the kinds of all columns, for which there is room
abbrev pub invariant-columns : goal.invariant-columns
invariant-columns l =
    (l.kinds.items ++ kinds_of (drop l.column-index l.columns) ≡ kinds_of l.columns)
    × (vec_len l.kinds ≡ l.column-index)
    × (length l.columns ≤ vec_capacity l.kinds)
