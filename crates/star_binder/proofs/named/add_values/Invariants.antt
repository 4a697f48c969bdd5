use Rattle.std.proofs.Common.{◌≡◌, ◌++◌, map, drop}
use Rattle.star_binder.specs.Literals.{literal_of}
use Rattle.star_binder.specs.Named.{beside}
use Rattle.star_binder.proofs.named.add_values.Given as goal

-- the literals so far, and the values that are left, are all
abbrev pub invariant-values : goal.invariant-values
invariant-values l =
    map literal_of l.literals.items ++ map (beside l.column) (drop l.value-index l.values)
    ≡ map literal_of l.initial.literals.items ++ map (beside l.column) l.values
