use Rattle.std.proofs.Common.{◌≡◌, ◌++◌, map, drop}
use Rattle.star_binder.specs.Places.{place_of}
use Rattle.star_binder.proofs.bound.groups.Given as goal

-- the places so far, and those of the columns that are left, are all
abbrev pub invariant-columns : goal.invariant-columns
invariant-columns l =
    l.groups.items ++ map (place_of l.scope) (drop l.column-index l.columns)
    ≡ map (place_of l.scope) l.columns
