use Rattle.std.proofs.Common.{◌≡◌, ◌++◌, map, drop}
use Rattle.star_binder.specs.Places.{table_of}
use Rattle.star_binder.proofs.conjuncts.tables_of.Given as goal

-- the tables so far, and those of the columns that are left, are all
abbrev pub invariant-columns : goal.invariant-columns
invariant-columns l =
    l.tables.items ++ map (table_of l.scope) (map (λ c. c.now) (drop l.column-index l.columns))
    ≡ map (table_of l.scope) (map (λ c. c.now) l.columns)
