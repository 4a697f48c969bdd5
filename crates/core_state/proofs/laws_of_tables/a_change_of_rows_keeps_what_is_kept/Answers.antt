use Rattle.core_state.proofs.GrownLemmas.{sound-grown}
use Rattle.core_state.proofs.laws_of_tables.a_change_of_rows_keeps_what_is_kept.Goals as goal

pub returns : goal.returns
returns c = sound-grown c.accepted_histories_are_settled.ensures.all c.later_changes_are_not_seen.ensures.kept
