use Rattle.std.proofs.Common.{refl}
use Rattle.star_plan.proofs.TruthLemmas.{all_fit-tests}
use Rattle.star_plan.proofs.fitting.tests_fit_by_their_parts.Goals as goal

pub returns : goal.returns
returns c = record {
  compare = λ kinds column how value. refl;
  between = λ kinds column low high. refl;
  one_of = λ kinds column values. refl;
  both = all_fit-tests;
  either = all_fit-tests;
  negate = λ kinds member. refl;
}
