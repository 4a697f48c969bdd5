-- A row of a table: the values in its columns.
use Rattle.std.specs.Prelude.{ℕ, List, slice_index_or, pos}
use Rattle.star_values.specs.declared.value.Value.{Value}
use Rattle.star_values.specs.declared.value.Value.TheVariants.{Int}

-- the value in a column of a row, and 0 past its end, where no query over a schema looks
abbrev pub value_in : List Value → ℕ → Value
value_in row column = slice_index_or row column (Int (pos 0))
