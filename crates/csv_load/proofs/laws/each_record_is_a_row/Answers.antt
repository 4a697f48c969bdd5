use Rattle.csv_load.proofs.RowLemmas.{typed_rows-length}
use Rattle.csv_load.proofs.laws.each_record_is_a_row.Goals as goal

pub returns : goal.returns
returns c = typed_rows-length
