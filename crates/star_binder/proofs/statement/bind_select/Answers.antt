use Rattle.std.proofs.Common.{List, subst, ◌∙◌}
use Rattle.star_plan.specs.Test.{query_of}
use Rattle.star_plan.specs.declared.table.Table.{Table}
use Rattle.star_binder.specs.Fault.{Binds}
use Rattle.star_binder.specs.Parts.{parts_of}
use Rattle.star_binder.specs.Refused.{bound_over, bound_select}
use Rattle.star_binder.proofs.statement.bind_select.Goals as goal

pub returns : goal.returns
unfolding bound_select
returns c =
    subst (λ (tables : List Table). Binds query_of c.bind_over.result
    (bound_over (record { schema = c.args.schema.now; tables = tables }) (parts_of c.args.select.now)))
    (c.as_slice.ensures.value ∙ c.in_ok-tables.ensures) c.bind_over.ensures
