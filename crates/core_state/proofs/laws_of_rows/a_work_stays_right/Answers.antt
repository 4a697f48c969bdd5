use Rattle.core_state.proofs.RowLemmas.{work-right}
use Rattle.core_state.proofs.laws_of_rows.a_work_stays_right.Goals as goal

pub returns : goal.returns
returns c = work-right
