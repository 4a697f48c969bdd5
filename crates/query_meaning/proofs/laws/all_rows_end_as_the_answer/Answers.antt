use Rattle.query_meaning.proofs.EndLemmas.{whole_answer}
use Rattle.query_meaning.proofs.laws.all_rows_end_as_the_answer.Goals as goal

pub returns : goal.returns
returns c = whole_answer c.answers_overflow_by_whole_sums.ensures.cells
