use Rattle.std.proofs.Common.{◌≡◌, ◌++◌, drop, map}
use Rattle.star_binder.proofs.select.add_group_columns.Given as goal

-- the columns so far, and those that are left, are all
abbrev pub invariant-groups : goal.invariant-groups
invariant-groups l =
    map (λ c. c.now) l.columns.items ++ drop l.column-index l.groups ≡ map (λ c. c.now) l.initial.columns.items ++ l.groups
