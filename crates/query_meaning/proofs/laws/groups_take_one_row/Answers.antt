use Rattle.query_meaning.proofs.GroupLemmas.{group_more}
use Rattle.query_meaning.proofs.laws.groups_take_one_row.Goals as goal

pub returns : goal.returns
returns c = group_more c.groups_take_one_row_more.ensures.rows c.tallies_take_one_row_more.ensures
