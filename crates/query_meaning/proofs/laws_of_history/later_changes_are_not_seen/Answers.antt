use Rattle.std.proofs.Common.{ap}
use Rattle.star_plan.specs.Answer.{answer_of}
use Rattle.query_meaning.proofs.LaterLemmas.{seen_before, kept_before}
use Rattle.query_meaning.proofs.laws_of_history.later_changes_are_not_seen.Goals as goal

pub returns-clause-rows : goal.returns-clause-rows
returns-clause-rows c = seen_before

pub returns-clause-kept : goal.returns-clause-kept
returns-clause-kept c = kept_before

pub returns-clause-answer : goal.returns-clause-answer
returns-clause-answer c = λ store change query snapshot settled accepted low.
    ap (answer_of query) (kept_before store change query snapshot settled accepted low)
