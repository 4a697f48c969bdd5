use Rattle.std.proofs.Common.{sym, ◌∙◌}
use Rattle.core_parts.proofs.NumberLemmas.{none-waited_as}
use Rattle.core_parts.proofs.seat.waited_place.Goals as goal

pub returns-else-is_waited_at-clause-none : goal.returns-else-is_waited_at-clause-none
returns-else-is_waited_at-clause-none c =
    none-waited_as c.args.statements.now c.first_from-place.result c.args.number c.requires c.first_from-place.ensures
    (sym c.is_waited_at.ensures ∙ c.if-is_waited_at.false)
