use Rattle.csv_load.proofs.RowLemmas.{typed_row-kinds, typed_rows-kinds}
use Rattle.csv_load.proofs.laws.rows_have_the_kinds.Goals as goal

pub returns-clause-row : goal.returns-clause-row
returns-clause-row c = typed_row-kinds

pub returns-clause-rows : goal.returns-clause-rows
returns-clause-rows c = typed_rows-kinds
