use Rattle.std.proofs.Common.{◌≡◌, ◌++◌, drop, filter_map}
use Rattle.star_plan.specs.Named.{table_named}
use Rattle.star_binder.proofs.statement.tables_named.Given as goal

-- the tables so far, and those of the names that are left, are all
abbrev pub invariant-names : goal.invariant-names
invariant-names l = l.tables.items ++ filter_map (table_named l.schema) (drop l.name-index l.names) ≡ filter_map (table_named l.schema) l.names
