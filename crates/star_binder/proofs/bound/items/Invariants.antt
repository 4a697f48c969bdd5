use Rattle.std.proofs.Common.{◌≡◌, ◌++◌, map, drop}
use Rattle.star_binder.specs.Bound.{bound_item}
use Rattle.star_binder.proofs.bound.items.Given as goal

-- the items so far, and those that are left, are all
abbrev pub invariant-items : goal.invariant-items
invariant-items l =
    l.items.items ++ map (bound_item l.scope) (drop l.item-index l.written)
    ≡ map (bound_item l.scope) l.written
