use Rattle.fact_versions.proofs.EndsLemmas.{length-with_end, there-with_end, other-with_end}
use Rattle.fact_versions.proofs.laws.ends_change_one_version.Goals as goal

pub returns-clause-count : goal.returns-clause-count
returns-clause-count c = length-with_end

pub returns-clause-there : goal.returns-clause-there
returns-clause-there c = there-with_end

pub returns-clause-others : goal.returns-clause-others
returns-clause-others c = other-with_end
