use Rattle.core_state.proofs.Words.{[], empty_store, refl}
use Rattle.core_state.proofs.LoggedLemmas.{changes-told}
use Rattle.core_state.proofs.laws_of_the_log.changes_follow_from_the_tables.Goals as goal

pub returns : goal.returns
returns c = λ history accepted ascending.
    changes-told c.accepted_histories_are_settled.ensures.next empty_store history 0 refl
    (c.accepted_histories_are_settled.ensures.all [] tt) accepted ascending
