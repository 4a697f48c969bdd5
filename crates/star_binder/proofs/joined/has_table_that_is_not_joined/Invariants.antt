use Rattle.std.proofs.Common.{◌≡◌, drop, map}
use Rattle.std.specs.List.{list_any}
use Rattle.star_parser.specs.Condition.{condition_of}
use Rattle.star_binder.specs.Refused.{is_not_joined}
use Rattle.star_binder.proofs.joined.has_table_that_is_not_joined.Given as goal

-- some table is not joined where one of those that are left is not
abbrev pub invariant-tables : goal.invariant-tables
invariant-tables l =
    list_any (is_not_joined l.scope (map condition_of l.conjuncts)) (drop l.table-index l.scope.tables)
    ≡ list_any (is_not_joined l.scope (map condition_of l.conjuncts)) l.scope.tables
