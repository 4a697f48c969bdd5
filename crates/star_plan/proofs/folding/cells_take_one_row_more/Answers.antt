use Rattle.std.specs.Ordering.{flip_args, ord_min}
use Rattle.star_values.specs.Value.{value_cmp}
use Rattle.star_plan.proofs.FoldingLemmas.{first-more, sum-more}
use Rattle.star_plan.proofs.folding.cells_take_one_row_more.Goals as goal

pub returns : goal.returns
returns c = record {
  sum = sum-more;
  least = first-more (ord_min value_cmp);
  greatest = first-more (ord_min (flip_args value_cmp));
}
