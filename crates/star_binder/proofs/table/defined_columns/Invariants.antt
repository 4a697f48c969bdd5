use Rattle.std.proofs.Common.{◌≡◌, ◌++◌, drop, map}
use Rattle.star_binder.specs.Table.{defined_column}
use Rattle.star_binder.proofs.table.defined_columns.Given as goal

-- what is defined, and what is left to define, are the columns of the table
abbrev pub invariant-columns : goal.invariant-columns
invariant-columns l =
    l.defined.items ++ map (defined_column l.schema) (drop l.column-index l.columns) ≡ map (defined_column l.schema) l.columns
