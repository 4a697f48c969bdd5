use Rattle.core_state.proofs.AttachedOverLemmas.{attached-abandon}
use Rattle.core_state.proofs.AttachedStartLemmas.{attached-answer, attached-finish, attached-start}
use Rattle.core_state.proofs.laws_of_attached.a_distributor_follows_the_core.Goals as goal

pub returns-clause-start : goal.returns-clause-start
returns-clause-start c = attached-start

pub returns-clause-finish : goal.returns-clause-finish
returns-clause-finish c = attached-finish

pub returns-clause-answer : goal.returns-clause-answer
returns-clause-answer c = attached-answer

pub returns-clause-abandon : goal.returns-clause-abandon
returns-clause-abandon c = attached-abandon
