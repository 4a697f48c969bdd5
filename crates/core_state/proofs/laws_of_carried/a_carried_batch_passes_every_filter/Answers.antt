use Rattle.core_state.proofs.OutsideLemmas.{carried-lands, lands-later}
use Rattle.core_state.proofs.laws_of_carried.a_carried_batch_passes_every_filter.Goals as goal

pub returns-clause-carried : goal.returns-clause-carried
returns-clause-carried c = carried-lands

pub returns-clause-later : goal.returns-clause-later
returns-clause-later c = lands-later
