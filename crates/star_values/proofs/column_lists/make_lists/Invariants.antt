use Rattle.std.proofs.Common.{◌≡◌, ◌-◌, ℕ, [], length}
use Rattle.std.specs.Prelude.{slice_index_or}
use Rattle.star_values.specs.declared.column_lists.TheConstants.{MAX_COLUMNS}
use Rattle.star_values.proofs.column_lists.make_lists.Given as goal

abbrev pub invariant-lists : goal.invariant-lists
invariant-lists g l = (column : ℕ) → slice_index_or l.columns column [] ≡ slice_index_or l.initial.columns column []

abbrev pub decreases-lists : goal.decreases-lists
decreases-lists g l = MAX_COLUMNS - length l.columns
