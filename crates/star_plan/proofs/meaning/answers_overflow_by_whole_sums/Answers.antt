use Rattle.std.proofs.Common.{refl}
use Rattle.star_plan.specs.Answer.{answer_of}
use Rattle.star_plan.proofs.AnswerLemmas.{overflow-law, is_beyond-law}
use Rattle.star_plan.proofs.meaning.answers_overflow_by_whole_sums.Goals as goal

pub returns : goal.returns
unfolding answer_of
returns c = record { some_sum = overflow-law; range = is_beyond-law; cells = λ query rows. refl }
