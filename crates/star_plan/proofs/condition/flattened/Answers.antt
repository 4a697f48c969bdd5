use Rattle.std.proofs.Common.{◌∙◌, ap, map, sym}
use Rattle.star_plan.specs.Test.{Both, tests, test_of}
use Rattle.star_plan.proofs.FlatLemmas.{both-ranges}
use Rattle.star_plan.proofs.condition.flattened.Goals as goal

pub returns-in-Some : goal.returns-in-Some
returns-in-Some c =
    both-ranges (test_of c.args.predicate.now) c.as_slice.result.now c.in-Some.tests
    (ap test_of c.in-Both.is ∙ c.predicates_are_tests_by_their_parts.ensures.both c.in-Both.list ∙ ap (λ members. Both (tests (map test_of members))) (sym c.as_slice.ensures))
    c.in-Some.ensures
