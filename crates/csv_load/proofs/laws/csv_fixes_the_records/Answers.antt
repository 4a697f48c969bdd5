use Rattle.csv_load.proofs.RecordLemmas.{records_fixed}
use Rattle.csv_load.proofs.laws.csv_fixes_the_records.Goals as goal

pub returns : goal.returns
returns c = records_fixed
