use Rattle.continuous_scan.proofs.BlankLemmas.{batch-asked, batch-later, ask-all}
use Rattle.continuous_scan.proofs.laws.rows_go_by_what_is_asked.Goals as goal

pub returns-clause-rows : goal.returns-clause-rows
returns-clause-rows c = batch-asked

pub returns-clause-later : goal.returns-clause-later
returns-clause-later c = batch-later

pub returns-clause-tests : goal.returns-clause-tests
returns-clause-tests c = ask-all
