use Rattle.std.proofs.Common.{Ok, Err}
use Rattle.star_store.proofs.LawLemmas.{select_bound, select_early}
use Rattle.star_store.proofs.laws_of_statements.selects_are_refused_by_the_schema.Goals as goal

pub returns-clause-early : goal.returns-clause-early
returns-clause-early c = select_early

pub returns-clause-bound : goal.returns-clause-bound
returns-clause-bound c = λ store fact statement items names condition groups reason e there bound.
    select_bound store fact statement items names condition groups (Err reason) e there bound

pub returns-clause-accepted : goal.returns-clause-accepted
returns-clause-accepted c = λ store fact statement items names condition groups query e there bound.
    select_bound store fact statement items names condition groups (Ok query) e there bound
