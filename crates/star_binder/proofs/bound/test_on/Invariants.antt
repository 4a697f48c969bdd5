use Rattle.std.proofs.Common.{◌≡◌, ◌++◌, map, drop}
use Rattle.std.specs.Prelude.{filter}
use Rattle.star_parser.specs.Condition.{condition_of}
use Rattle.star_plan.specs.Test.{test_of}
use Rattle.star_binder.specs.Bound.{bound_test}
use Rattle.star_binder.specs.Conjuncts.{is_on}
use Rattle.star_binder.proofs.bound.test_on.Given as goal

-- the tests so far, and those of the conjuncts that are left, are all
abbrev pub invariant-conjuncts : goal.invariant-conjuncts
invariant-conjuncts l =
    map test_of l.members.items
    ++ map (bound_test l.scope) (filter (is_on l.scope l.table) (map condition_of (drop l.conjunct-index l.conjuncts)))
    ≡ map (bound_test l.scope) (filter (is_on l.scope l.table) (map condition_of l.conjuncts))
