use Rattle.star_plan.proofs.SchemaLemmas.{declared_with_fact}
use Rattle.star_plan.proofs.declare.declare_fact.Goals as goal

pub returns-clause-declared : goal.returns-clause-declared
returns-clause-declared c =
    declared_with_fact c.args.schema.now c.args.table c.refusal_of_fact.new.table c.requires.declared c.in_default.ensures c.requires.columns
