use Rattle.std.proofs.Common.{[]}
use Rattle.star_store.proofs.LawLemmas.{by_tables}
use Rattle.star_store.proofs.laws_of_statements.replies_follow_from_the_tables.Goals as goal

pub returns-clause-after : goal.returns-clause-after
returns-clause-after c = by_tables

pub returns-clause-script : goal.returns-clause-script
returns-clause-script c = λ wanted statements. by_tables wanted 0 [] statements
