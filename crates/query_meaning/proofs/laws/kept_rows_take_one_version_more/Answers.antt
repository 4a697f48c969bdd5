use Rattle.query_meaning.proofs.KeptLemmas.{kept_more}
use Rattle.query_meaning.proofs.laws.kept_rows_take_one_version_more.Goals as goal

pub returns : goal.returns
returns c = kept_more c.groups_take_one_row_more.ensures.kept
