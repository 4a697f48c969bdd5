use Rattle.std.proofs.Common.{refl}
use Rattle.star_plan.proofs.TruthLemmas.{Between-law, OneOf-law, Both-law, Either-law, Negate-law}
use Rattle.star_plan.proofs.truth.tests_hold_by_their_parts.Goals as goal

pub returns : goal.returns
returns c = record {
  compare = λ row column how value. refl;
  between = Between-law;
  one_of = OneOf-law;
  both = Both-law;
  either = Either-law;
  negate = Negate-law;
}
