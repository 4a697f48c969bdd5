-- The key numbers of versions, column by column.
use Rattle.std.specs.Prelude.{◌≡◌, ℕ, ◌+◌, ◌<◌, ◌≤◌, List, [], ◌∷◌, ◌++◌, length, map, All, slice_index_or}
use Rattle.star_values.specs.Roomy.{Roomy}
use Rattle.fact_versions.specs.declared.version.Version.{Version}
use Rattle.fact_versions.specs.declared.version.TheConstants.{KEYS_IN_A_VERSION}

-- the key numbers of versions for a dimension
abbrev pub keys_for : (dimension : ℕ) → List Version → List ℕ
keys_for dimension versions = map (λ version. slice_index_or version.keys dimension 0) versions

-- every version has a key number for each dimension
abbrev pub HaveAllKeys : List Version → Type 0
HaveAllKeys versions = All (λ version. length version.keys ≡ KEYS_IN_A_VERSION) versions

-- a column of no keys, and without room
abbrev pub no_column : Roomy ℕ
no_column = record { items = []; room = 0 }

-- the column for a dimension
abbrev pub column_of : List (Roomy ℕ) → (dimension : ℕ) → Roomy ℕ
column_of columns dimension = slice_index_or columns dimension no_column

-- every column has room for so many more keys
abbrev pub HaveRoomForKeys : (room : ℕ) → List (Roomy ℕ) → Type 0
HaveRoomForKeys room columns =
    (dimension : ℕ) → dimension < KEYS_IN_A_VERSION → room ≤ (column_of columns dimension).room

-- a column has one key more than before, and used up room for one
pub record HasOneMore (old new : Roomy ℕ) (key : ℕ) : Type 0 where
  pub items : new.items ≡ old.items ++ key ∷ []
  pub room : new.room + 1 ≡ old.room

-- columns have the key numbers of versions, each the one of all
pub record AreKeyColumns (versions : List Version) (columns : List (Roomy ℕ)) : Type 0 where
  pub whole : HaveAllKeys versions
  pub each : (dimension : ℕ) → dimension < KEYS_IN_A_VERSION
      → (column_of columns dimension).items ≡ keys_for dimension versions
