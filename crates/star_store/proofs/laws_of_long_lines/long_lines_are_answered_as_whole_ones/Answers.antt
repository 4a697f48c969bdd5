use Rattle.std.proofs.Common.{refl}
use Rattle.star_store.proofs.LongLineLemmas.{Reasons, same_effect, same_histories, same_outcome, same_replies}
use Rattle.star_store.proofs.laws_of_long_lines.long_lines_are_answered_as_whole_ones.Goals as goal

pub returns : goal.returns
returns c =
    let says : Reasons = record {
      clips = c.long_lines_are_clipped.ensures;
      utf8 = c.texts_are_refused_for_the_first_reason.ensures.utf8;
      limit = c.texts_are_refused_for_the_first_reason.ensures.limit;
    } in record {
      limit = refl;
      outcome = same_outcome says;
      effect = same_effect says;
      replies = same_replies says c.statements_are_given.ensures;
      history = same_histories says c.statements_are_given.ensures;
    }
