use Rattle.query_meaning.proofs.KeyLemmas.{one_row}
use Rattle.query_meaning.proofs.laws_of_history.one_row_joins_a_visible_version.Goals as goal

pub returns : goal.returns
returns c = one_row
