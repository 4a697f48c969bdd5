-- Bound conditions from those of a list.
use Rattle.std.proofs.Common.{◌≡◌, List, [], ◌∷◌, map, refl, ap}
use Rattle.star_parser.specs.declared.tree.Tree.{Tree}
use Rattle.star_parser.specs.Condition.{condition_of, conditions}
use Rattle.star_plan.specs.Test.{more, tests}
use Rattle.star_binder.specs.Bound.{bound_test, bound_tests}
use Rattle.star_binder.specs.Scope.{TablesInScope}

-- the tests of several trees
pub tests_bound : (scope : TablesInScope) (trees : List Tree)
    → bound_tests scope (conditions (map condition_of trees)) ≡ tests (map (λ tree. bound_test scope (condition_of tree)) trees)
tests_bound scope [] = refl
tests_bound scope (tree ∷ trees) = ap (more (bound_test scope (condition_of tree))) (tests_bound scope trees)
