-- The parts that rows and their index consist of, and one row more.
use Rattle.std.specs.Prelude.{◌≡◌, ℕ, ◌<◌, ◌≤◌, ◌+◌, List, [], ◌∷◌, ◌++◌, length, nat_eq, Option, None, IsSome, IfSome}
use Rattle.std.specs.HashMap.{get, spare}
use Rattle.std.specs.declared.random_state.RandomState.{RandomState}
use Rattle.star_values.specs.declared.value.Value.{Value}
use Rattle.dimension_rows.specs.declared.dimension_row.DimensionRow.{DimensionRow}
use Rattle.dimension_rows.specs.declared.dimension_row.TheConstants.{MAX_DIMENSION_ROWS}
use Rattle.dimension_rows.specs.declared.parts.RowParts.{RowParts}
use Rattle.dimension_rows.specs.Keys.{AreKeyed, key_of, index_of}
use Rattle.dimension_rows.specs.Hash.{hashes_of}
use Rattle.dimension_rows.specs.Links.{AreLinked, AreNewest}

-- there are few enough rows, their keys name them, and the links find each of them
pub record AreIndexed (hash_keys : RandomState) (rows : List DimensionRow) (older : List (Option ℕ))
    (newest : ℕ → Option ℕ) : Type 0 where
  pub few : length rows ≤ MAX_DIMENSION_ROWS
  pub keyed : AreKeyed rows
  pub linked : AreLinked (hashes_of hash_keys rows) older
  pub newest_linked : AreNewest (hashes_of hash_keys rows) newest

-- the same of the rows and links among the parts
abbrev pub IsIndexed : RandomState → RowParts → Type 0
IsIndexed hash_keys parts =
    AreIndexed hash_keys parts.rows.items parts.older.items (get nat_eq parts.newest)

-- each part has at least this much room
pub record HavePartsRoom (room : ℕ) (parts : RowParts) : Type 0 where
  pub in_rows : room ≤ parts.rows.room
  pub in_older : room ≤ parts.older.room
  pub in_newest : room ≤ spare parts.newest

-- a row may be put behind these: one more is not too many, and it has a key that none of them has
pub record MayFollow (rows : List DimensionRow) (row : List Value) : Type 0 where
  pub few : length rows < MAX_DIMENSION_ROWS
  pub key : IsSome (key_of row)
  pub fresh : IfSome (key_of row) (λ key. index_of rows key ≡ None)

-- a row stands behind all others and is found by its key, for which it took the room of one in
-- each part
pub record PutsRow (hash_keys : RandomState) (entry : DimensionRow) (old new : RowParts)
    : Type 0 where
  pub items : new.rows.items ≡ old.rows.items ++ entry ∷ []
  pub indexed : IsIndexed hash_keys new
  pub rows_room : new.rows.room + 1 ≡ old.rows.room
  pub older_room : new.older.room + 1 ≡ old.older.room
  pub newest_room : spare old.newest ≤ spare new.newest + 1
