use Rattle.std.proofs.Common.{map}
use Rattle.star_parser.specs.Condition.{condition_of}
use Rattle.star_binder.proofs.StatementLemmas.{delete-fits}
use Rattle.star_binder.proofs.statement.bind_delete.Goals as goal

pub returns-clause-fits : goal.returns-clause-fits
returns-clause-fits c =
    delete-fits c.bind_conjuncts.result c.args.schema.now c.in-Delete.name (map condition_of c.conjuncts_of.result.now) c.bind_conjuncts.ensures
