use Rattle.std.proofs.Common.{◌≡◌, drop}
use Rattle.std.specs.List.{list_any}
use Rattle.star_binder.specs.Refused.{names_no_table}
use Rattle.star_binder.proofs.known.has_unknown_table.Given as goal

-- some name is that of no table where one of those that are left is
abbrev pub invariant-names : goal.invariant-names
invariant-names l =
    list_any (names_no_table l.scope.schema) (drop l.name-index l.names)
    ≡ list_any (names_no_table l.scope.schema) l.names
