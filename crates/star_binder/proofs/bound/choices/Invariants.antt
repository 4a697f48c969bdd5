use Rattle.std.proofs.Common.{◌≡◌, map}
use Rattle.std.specs.List.{range_with_len}
use Rattle.star_parser.specs.Condition.{condition_of}
use Rattle.star_plan.specs.Test.{selection_of}
use Rattle.star_binder.specs.Bound.{selection_on}
use Rattle.star_binder.proofs.bound.choices.Given as goal

-- the choices so far are those of the dimensions so far
abbrev pub invariant-dimensions : goal.invariant-dimensions
invariant-dimensions l =
    map selection_of l.choices.items
    ≡ map (selection_on l.scope (map condition_of l.conjuncts)) (range_with_len 0 l.dimension)
