use Rattle.std.proofs.Common.{◌≡◌, drop, map}
use Rattle.std.specs.List.{list_any}
use Rattle.star_binder.specs.Places.{is_unknown}
use Rattle.star_binder.proofs.known.has_unknown_column.Given as goal

-- some column is unknown where one of those that are left is
abbrev pub invariant-columns : goal.invariant-columns
invariant-columns l =
    list_any (is_unknown l.scope) (map (λ c. c.now) (drop l.column-index l.columns))
    ≡ list_any (is_unknown l.scope) (map (λ c. c.now) l.columns)
