-- What a row ends as, where its values were lent to be written.
use Rattle.std.specs.Prelude.{List, length}
use Rattle.std.specs.List.{refill}
use Rattle.std.specs.Borrow.{Lends, MutBor, Fml, Array}
use Rattle.star_values.specs.declared.value.Value.{Value}
use Rattle.star_values.specs.contracts.value.Value.{the_row as value_layout}
use Rattle.star_values.specs.contracts.row.Row.{the_row as row_layout}

-- the row ends as the values that were last written, of which there are as many as before
abbrev pub lends_values : MutBor (List Value) → MutBor (List Value) → Fml
lends_values row values =
    Lends row_layout (Array value_layout 0) row values (refill (length row.now) row.now)
