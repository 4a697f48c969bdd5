use Rattle.std.proofs.Common.{◌∙◌}
use Rattle.dimension_rows.specs.Integers.{values_of}
use Rattle.dimension_rows.proofs.ColumnLemmas.{AreColumns-append, values_of-length}
use Rattle.dimension_rows.proofs.parts.append_to_columns.Goals as goal

pub returns-clause-columns : goal.returns-clause-columns
returns-clause-columns c = λ rows before columns commit.
    AreColumns-append rows (record { row = c.args.row.now; commit = commit }) c.append-of_integers.new.self c.append-of_codes.new.self
    (c.append-of_integers.ensures.first (values_of rows) (values_of-length rows ∙ before) columns.of_integers)
    (c.append-of_codes.ensures.first (values_of rows) (values_of-length rows ∙ before) columns.of_codes)
