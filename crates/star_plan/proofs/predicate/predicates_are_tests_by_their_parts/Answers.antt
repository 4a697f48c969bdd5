use Rattle.star_plan.proofs.TruthLemmas.{test_of-Compare, test_of-Between, test_of-OneOf, test_of-Both, test_of-Either, test_of-Negate}
use Rattle.star_plan.proofs.predicate.predicates_are_tests_by_their_parts.Goals as goal

pub returns : goal.returns
returns c = record {
  compare = test_of-Compare;
  between = test_of-Between;
  one_of = test_of-OneOf;
  both = test_of-Both;
  either = test_of-Either;
  negate = test_of-Negate;
}
