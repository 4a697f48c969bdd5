use Rattle.std.proofs.Common.{refl}
use Rattle.star_plan.specs.Joined.{kept_of}
use Rattle.star_plan.proofs.AnswerLemmas.{is_kept-law}
use Rattle.star_plan.proofs.meaning.kept_rows_meet_each_condition.Goals as goal

pub returns : goal.returns
unfolding kept_of
returns c = record { meets = is_kept-law; kept = λ query rows. refl }
