use Rattle.core_state.proofs.RowLemmas.{submits-mindful, submits-row, takes-mindful, takes-row}
use Rattle.core_state.proofs.laws_of_rows.a_statement_and_a_reply_move_the_row_of_their_seat.Goals as goal

pub returns-clause-submitted : goal.returns-clause-submitted
returns-clause-submitted c = submits-row

pub returns-clause-taken : goal.returns-clause-taken
returns-clause-taken c = takes-row

pub returns-clause-mindful : goal.returns-clause-mindful
returns-clause-mindful c = submits-mindful

pub returns-clause-mindful_taking : goal.returns-clause-mindful_taking
returns-clause-mindful_taking c = takes-mindful
