use Rattle.std.proofs.Common.{◌≡◌, ◌++◌, drop, option_map}
use Rattle.csv.specs.Records.{fields_of}
use Rattle.csv_load.specs.Rows.{typed_row}
use Rattle.csv_load.proofs.row.typed_row.Given as goal

-- the values so far, in front of those of the fields that are left, are the row
abbrev pub invariant-loop-index : goal.invariant-loop-index
invariant-loop-index l =
    option_map (λ more. l.values.items ++ more) (typed_row (drop l.index l.kinds) (drop l.index (fields_of l.fields))) ≡ typed_row l.kinds (fields_of l.fields)
