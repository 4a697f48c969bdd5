-- How a cell of an answer is written.
use Rattle.std.specs.Prelude.{ℕ, List, codes}
use Rattle.star_values.specs.Value.{value_text}
use Rattle.star_values.specs.declared.cell.Cell.{Cell}
use Rattle.star_values.specs.declared.cell.Cell.TheVariants.{Null, Full}

-- the word null where there is no value, else the text of the value
abbrev pub cell_text : Cell → List ℕ
cell_text Null = codes "null"
cell_text (Full value) = value_text value
