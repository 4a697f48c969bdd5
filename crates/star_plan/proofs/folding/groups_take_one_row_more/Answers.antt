use Rattle.star_plan.proofs.FoldingLemmas.{groups-more, rows-more, kept-more}
use Rattle.star_plan.proofs.folding.groups_take_one_row_more.Goals as goal

pub returns : goal.returns
returns c = record { groups = groups-more; rows = rows-more; kept = kept-more }
