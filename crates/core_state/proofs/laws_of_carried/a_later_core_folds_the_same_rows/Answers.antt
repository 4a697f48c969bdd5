use Rattle.core_state.proofs.OutsideLemmas.{rows-stay}
use Rattle.core_state.proofs.laws_of_carried.a_later_core_folds_the_same_rows.Goals as goal

pub returns : goal.returns
returns c = rows-stay
