use Rattle.csv_load.proofs.ReaderLemmas.{all_left}
use Rattle.csv_load.proofs.reader.csv_reader.Goals as goal

pub returns-clause-records : goal.returns-clause-records
returns-clause-records c =
    all_left _ _ c.args.block.now c.without_marks.result.now c.from_reader.ensures.state c.from_reader.ensures.source c.without_marks.ensures
