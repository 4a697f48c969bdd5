use Rattle.core_state.proofs.DeclaredLemmas.{declared-beside}
use Rattle.core_state.proofs.laws_of_statements.a_declaration_keeps_what_is_kept.Goals as goal

pub returns : goal.returns
returns c = declared-beside c.accepted_histories_are_settled.ensures.all
