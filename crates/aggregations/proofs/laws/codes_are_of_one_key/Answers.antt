use Rattle.aggregations.proofs.HomeLemmas.{codes_of_key}
use Rattle.aggregations.proofs.laws.codes_are_of_one_key.Goals as goal

pub returns : goal.returns
returns c = codes_of_key c.codes_tell_values_apart.ensures.keys
