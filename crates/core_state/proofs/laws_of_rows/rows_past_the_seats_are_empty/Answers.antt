use Rattle.core_state.proofs.RowLemmas.{rows-past}
use Rattle.core_state.proofs.laws_of_rows.rows_past_the_seats_are_empty.Goals as goal

pub returns : goal.returns
returns c = rows-past
