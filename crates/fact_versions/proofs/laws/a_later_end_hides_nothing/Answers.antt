use Rattle.fact_versions.proofs.VisibleLemmas.{visible-ended_later}
use Rattle.fact_versions.proofs.laws.a_later_end_hides_nothing.Goals as goal

pub returns : goal.returns
returns c = visible-ended_later
