use Rattle.aggregations.proofs.AbsorbLemmas.{without_grouped}
use Rattle.aggregations.proofs.laws.groups_without_rows_are_those_of_none.Goals as goal

pub returns : goal.returns
returns c = without_grouped
