use Rattle.std.proofs.Common.{◌≡◌, ℕ, ◌<◌, length, None, slice_index_or}
use Rattle.std.specs.Prelude.{position}
use Rattle.star_plan.specs.Declaration.{references}
use Rattle.star_store.proofs.versions.references_of.Given as goal

-- the columns of the dimensions so far are found
abbrev pub invariant-dimensions : goal.invariant-dimensions
invariant-dimensions l =
    (length l.found ≡ 8)
    × ((k : ℕ) → k < l.dimension → slice_index_or l.found k None ≡ position (references k) l.columns)
