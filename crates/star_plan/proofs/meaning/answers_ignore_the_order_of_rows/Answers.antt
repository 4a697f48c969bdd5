use Rattle.star_plan.proofs.AnswerLemmas.{answer-IsPermutation, kept-IsPermutation}
use Rattle.star_plan.proofs.meaning.answers_ignore_the_order_of_rows.Goals as goal

pub returns : goal.returns
returns c = record {
  answer = answer-IsPermutation c.values_are_in_order.ensures.total c.values_are_in_order.ensures.same;
  kept = kept-IsPermutation;
}
