use Rattle.core_state.proofs.RowLemmas.{passes-done, passes-want}
use Rattle.core_state.proofs.laws_of_rows.other_events_leave_what_seats_see.Goals as goal

pub returns-clause-done : goal.returns-clause-done
returns-clause-done c = passes-done

pub returns-clause-wants : goal.returns-clause-wants
returns-clause-wants c = passes-want
