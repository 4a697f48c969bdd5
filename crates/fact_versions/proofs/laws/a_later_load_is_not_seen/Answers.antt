use Rattle.fact_versions.proofs.VisibleLemmas.{visible-begun_later}
use Rattle.fact_versions.proofs.laws.a_later_load_is_not_seen.Goals as goal

pub returns : goal.returns
returns c = visible-begun_later
