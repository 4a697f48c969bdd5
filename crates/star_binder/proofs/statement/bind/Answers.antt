use Rattle.std.proofs.Common.{map}
use Rattle.star_parser.specs.Condition.{condition_of}
use Rattle.star_binder.proofs.StatementLemmas.{select-binds, select-over}
use Rattle.star_binder.proofs.statement.bind.Goals as goal

pub returns-clause-binds : goal.returns-clause-binds
returns-clause-binds c =
    select-binds c.bind_select.result c.args.schema.now c.args.ast.now c.in-Select.items c.in-Select.tables c.in-Select.condition c.in-Select.groups
    c.as_slice.result.now c.as_slice-in-Select.result.now (map condition_of c.conjuncts_of.result.now) c.as_slice-in-Select-2.result.now
    c.in-Select.is c.as_slice.ensures c.as_slice-in-Select.ensures c.conjuncts_of.ensures c.as_slice-in-Select-2.ensures c.bind_select.ensures

pub returns-clause-over : goal.returns-clause-over
returns-clause-over c =
    select-over c.bind_select.result c.args.schema.now
    (record { items = c.as_slice.result.now; names = c.as_slice-in-Select.result.now; conjuncts = map condition_of c.conjuncts_of.result.now; groups = c.as_slice-in-Select-2.result.now })
    c.args.ast.now c.in-Select.items c.in-Select.tables c.in-Select.condition c.in-Select.groups
    c.in-Select.is c.requires.select c.as_slice.ensures c.bind_select.ensures
