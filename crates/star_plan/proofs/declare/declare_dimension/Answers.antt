use Rattle.std.proofs.Common.{sym, subst}
use Rattle.star_plan.specs.Schemas.{IsDeclared}
use Rattle.star_plan.proofs.SchemaLemmas.{declared_with_dimension}
use Rattle.star_plan.proofs.declare.declare_dimension.Goals as goal

pub returns-clause-declared : goal.returns-clause-declared
returns-clause-declared c =
    let grown = declared_with_dimension c.args.schema.now c.args.table c.refusal_of_dimension.new.table c.requires.declared c.in_default.ensures
    c.requires.columns c.requires.plain in
    subst (λ dimensions. IsDeclared (record { dimensions = dimensions; fact = c.args.schema.now.fact })) (sym c.in_ok-push.ensures.ok) grown
