use Rattle.std.proofs.Common.{◌≡◌, ◌+◌, ◌<◌, ◌^◌, length}
use Rattle.csv_load.specs.Records.{records_in}
use Rattle.csv_load.proofs.block.count_records.Given as goal

-- the records that were counted, and those that are left, are all
abbrev pub invariant-records : goal.invariant-records
invariant-records l = record {
  all : l.count + length l.reader ≡ length (records_in l.header l.block);
  few : length (records_in l.header l.block) < 2 ^ 64;
}

abbrev pub decreases-records : goal.decreases-records
decreases-records l = length l.reader
