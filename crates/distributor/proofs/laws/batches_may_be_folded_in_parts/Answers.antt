use Rattle.distributor.proofs.VersionLemmas.{versions_for-append, with_versions-append}
use Rattle.distributor.proofs.laws.batches_may_be_folded_in_parts.Goals as goal

pub returns-clause-versions : goal.returns-clause-versions
returns-clause-versions c = with_versions-append

pub returns-clause-bits : goal.returns-clause-bits
returns-clause-bits c = versions_for-append
