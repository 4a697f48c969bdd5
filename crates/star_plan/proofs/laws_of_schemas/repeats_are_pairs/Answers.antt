use Rattle.star_plan.proofs.RepeatLemmas.{repeats-pairs}
use Rattle.star_plan.proofs.laws_of_schemas.repeats_are_pairs.Goals as goal

pub returns : goal.returns
returns c = repeats-pairs
