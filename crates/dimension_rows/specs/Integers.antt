-- The integers and the codes of the first rows, column by column.
use Rattle.std.specs.Prelude.{◌≡◌, ℕ, ◌<◌, ◌≤◌, ℤ, pos, List, length, map, slice_get, slice_index, slice_index_or, option_map, Some}
use Rattle.star_values.specs.declared.value.Value.{Value}
use Rattle.star_values.specs.declared.value.Value.TheVariants.{Int}
use Rattle.star_values.specs.Codes.{code_of}
use Rattle.star_values.specs.First.{AreIntegerColumns, AreCodeColumns}
use Rattle.dimension_rows.specs.declared.dimension_row.DimensionRow.{DimensionRow}

-- the first rows have these integers in a column
pub record HaveFirstIntegers (rows : List DimensionRow) (column : ℕ) (integers : List ℤ)
    : Type 0 where
  pub few : length integers ≤ length rows
  pub each : (place : ℕ) (entry : DimensionRow) → place < length integers
      → slice_get rows place ≡ Some entry
      → slice_get entry.row column ≡ Some (Int (slice_index_or integers place (pos 0)))

-- the first rows have values of these codes in a column
pub record HaveFirstCodes (rows : List DimensionRow) (column : ℕ) (codes : List ℕ) : Type 0 where
  pub few : length codes ≤ length rows
  pub each : (place : ℕ) (entry : DimensionRow) → place < length codes
      → slice_get rows place ≡ Some entry
      → option_map code_of (slice_get entry.row column) ≡ Some (slice_index codes place)

-- the values of rows, without the commits that loaded them
abbrev pub values_of : List DimensionRow → List (List Value)
values_of rows = map (λ entry. entry.row) rows

-- columns beside rows have the integers and the codes of the first of them
pub record AreColumns (rows : List DimensionRow) (integers : List (List ℤ))
    (codes : List (List ℕ)) : Type 0 where
  pub of_integers : AreIntegerColumns (values_of rows) integers
  pub of_codes : AreCodeColumns (values_of rows) codes
