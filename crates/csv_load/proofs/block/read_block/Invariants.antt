use Rattle.std.proofs.Common.{◌≡◌, ◌++◌, length, option_map}
use Rattle.csv_load.specs.Records.{records_in}
use Rattle.csv_load.specs.Rows.{typed_rows}
use Rattle.csv_load.proofs.block.read_block.Given as goal

-- the rows so far, in front of those of the records that are left, are those of the block
abbrev pub invariant-records : goal.invariant-records
invariant-records l = option_map (λ more. l.rows ++ more) (typed_rows l.kinds l.reader) ≡ typed_rows l.kinds (records_in l.header l.block)

abbrev pub decreases-records : goal.decreases-records
decreases-records l = length l.reader
