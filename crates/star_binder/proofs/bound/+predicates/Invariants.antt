use Rattle.std.proofs.Common.{◌≡◌, ◌++◌, map, drop}
use Rattle.star_parser.specs.Condition.{condition_of}
use Rattle.star_plan.specs.Test.{test_of}
use Rattle.star_binder.specs.Bound.{bound_test}
use Rattle.star_binder.proofs.bound.+predicates.Given as goal

-- the tests so far, and those of the trees that are left, are all
abbrev pub invariant-bound_tests-trees : goal.invariant-bound_tests-trees
invariant-bound_tests-trees l =
    map test_of l.members.items ++ map (λ tree. bound_test l.scope (condition_of tree)) (drop l.tree-index l.trees)
    ≡ map (λ tree. bound_test l.scope (condition_of tree)) l.trees
