use Rattle.star_io.proofs.FaultLemmas.{one_more}
use Rattle.star_io.proofs.laws.one_more_is_a_rise.Goals as goal

pub returns : goal.returns
returns c = one_more
