use Rattle.std.proofs.Common.{◌∙◌, length, ap, arith}
use Rattle.csv_load.proofs.RecordLemmas.{header_dropped, no_header, records_in-few}
use Rattle.csv_load.specs.Reading.{records_left}
use Rattle.csv_load.proofs.reader.BlockReader.new.Goals as goal
use Rattle.csv_load.proofs.reader.BlockReader.new.Goals.{then-header+in_ok-read, else-header}

pub returns-clause-records : goal.returns-clause-records
returns-clause-records c =
    elim c.if-header.branch [
      | then-header+in_ok-read w ↦
          header_dropped c.args.header c.args.block.now _ (records_left c.csv_reader.result) w.if-header.true
          (w.reader-is ∙ w.in_ok-read.ensures.left) c.csv_reader.ensures.records
      | else-header w ↦
          no_header c.args.header c.args.block.now _ (records_left c.csv_reader.result) w.if-header.false
          w.reader-is c.csv_reader.ensures.records
    ]

pub returns-clause-few : goal.returns-clause-few
returns-clause-few c =
    let same = ap length (returns-clause-records c) in
    let few = records_in-few c.args.header c.args.block.now in
    omega (arith, same, few)
