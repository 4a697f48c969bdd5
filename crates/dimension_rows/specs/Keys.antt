-- The keys of rows, and the place of a key.
use Rattle.std.specs.Prelude.{◌≡◌, ℕ, zero, suc, ◌<◌, Bool, false, List, [], ◌∷◌, length, position, slice_get, IsSome, Option, Some, None}
use Rattle.std.specs.Ordering.{eq_by_cmp}
use Rattle.star_values.specs.declared.value.Value.{Value}
use Rattle.star_values.specs.Value.{value_cmp}
use Rattle.dimension_rows.specs.declared.dimension_row.DimensionRow.{DimensionRow}

-- the key of a row, its first value, where it has one
abbrev pub key_of : List Value → Option Value
key_of row = slice_get row 0

-- whether there is a key, and it is this one
abbrev pub is_key : Value → Option Value → Bool
is_key key None = false
is_key key (Some other) = eq_by_cmp value_cmp other key

-- whether a row has this key
abbrev pub has_key : Value → DimensionRow → Bool
has_key key entry = is_key key (key_of entry.row)

-- the place, from 0, of the first row with this key, where there is one
abbrev pub index_of : List DimensionRow → Value → Option ℕ
index_of rows key = position (has_key key) rows

-- the key of the row at a place, from 0, where there is such a row
abbrev pub key_at : List DimensionRow → ℕ → Option Value
key_at [] place = None
key_at (entry ∷ rows) zero = key_of entry.row
key_at (entry ∷ rows) (suc place) = key_at rows place

-- the keys of rows name them
pub record AreKeyed (rows : List DimensionRow) : Type 0 where
  -- each row has a key
  pub each : (place : ℕ) → place < length rows → IsSome (key_at rows place)
  -- two places with one key are one place
  pub once : (key : Value) (i j : ℕ) → key_at rows i ≡ Some key → key_at rows j ≡ Some key → i ≡ j
