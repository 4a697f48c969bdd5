use Rattle.query_meaning.proofs.LoadedLemmas.{key_numbers_in_grown}
use Rattle.query_meaning.proofs.laws_of_history.later_rows_move_no_key_number.Goals as goal

pub returns : goal.returns
returns c = key_numbers_in_grown c.a_new_row_moves_no_other.ensures.kept
