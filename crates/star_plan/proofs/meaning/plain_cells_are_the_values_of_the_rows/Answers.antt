use Rattle.star_plan.proofs.AnswerLemmas.{plain-law}
use Rattle.star_plan.proofs.meaning.plain_cells_are_the_values_of_the_rows.Goals as goal

pub returns : goal.returns
returns c = plain-law c.values_are_in_order.ensures.total c.values_are_in_order.ensures.same
