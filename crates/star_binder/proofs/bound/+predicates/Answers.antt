use Rattle.std.proofs.Common.{map, ap, sym, ◌∙◌, arith}
use Rattle.star_parser.specs.Condition.{condition_of}
use Rattle.star_plan.specs.Test.{test_of, tests}
use Rattle.star_binder.specs.Bound.{bound_test}
use Rattle.star_binder.proofs.BoundLemmas.{tests_bound}
use Rattle.star_binder.proofs.ListLemmas.{made_all}
use Rattle.star_binder.proofs.bound.+predicates.Goals as goal

pub bound_tests-returns : goal.bound_tests-returns
bound_tests-returns t c =
    let scope = c.args.scope.now in
    ap (λ members. tests (map test_of members)) c.from.ensures
    ∙ ap tests (made_all (λ tree. bound_test scope (condition_of tree)) c.args.trees.now (map test_of c.trees.members.items) c.trees.tree-index (omega arith) c.trees.invariant)
    ∙ sym (tests_bound scope c.args.trees.now)
