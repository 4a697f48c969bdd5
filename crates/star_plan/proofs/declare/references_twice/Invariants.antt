use Rattle.std.proofs.Common.{◌≡◌, ◌-◌, length}
use Rattle.std.specs.List.{list_any, range_with_len}
use Rattle.star_plan.specs.Declaration.{is_referenced_twice}
use Rattle.star_plan.proofs.declare.references_twice.Given as goal

-- some dimension is referenced twice where one of those that are left is
abbrev pub invariant-dimensions : goal.invariant-dimensions
invariant-dimensions l =
    (l.count ≡ length l.schema.dimensions)
    × (list_any (is_referenced_twice l.columns) (range_with_len l.dimension (l.count - l.dimension))
    ≡ list_any (is_referenced_twice l.columns) (range_with_len 0 l.count))
