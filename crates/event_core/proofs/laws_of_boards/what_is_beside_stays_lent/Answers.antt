use Rattle.event_core.proofs.LoanLemmas.{beside-lent}
use Rattle.event_core.proofs.laws_of_boards.what_is_beside_stays_lent.Goals as goal

pub returns : goal.returns
returns c = beside-lent
