use Rattle.star_plan.proofs.SchemaLemmas.{declared_with_dimension, declared_with_fact}
use Rattle.star_plan.proofs.laws_of_schemas.accepted_tables_keep_a_schema_declared.Goals as goal

pub returns-clause-dimension : goal.returns-clause-dimension
returns-clause-dimension c = λ schema table declared some plain accepted. declared_with_dimension schema table table declared accepted some plain

pub returns-clause-fact : goal.returns-clause-fact
returns-clause-fact c = λ schema table declared some accepted. declared_with_fact schema table table declared accepted some
