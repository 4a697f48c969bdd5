use Rattle.core_state.proofs.LoggedDeleteLemmas.{outcome-ascends}
use Rattle.core_state.proofs.laws_of_the_log.deletes_name_ascending_positions.Goals as goal

pub returns : goal.returns
returns c = outcome-ascends
