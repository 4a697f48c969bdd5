-- What is kept of the first rows of a table, side by side.
use Rattle.std.specs.Prelude.{◌≡◌, ℕ, ℤ, ◌<◌, ◌≤◌, List, [], ◌∷◌, ◌++◌, length, slice_get, slice_index_or, option_map, Some}
use Rattle.star_values.specs.declared.value.Value.{Value}
use Rattle.star_values.specs.declared.value.Value.TheVariants.{Int, Str}
use Rattle.star_values.specs.Codes.{code_of}
use Rattle.star_values.specs.declared.column_lists.TheConstants.{MAX_COLUMNS}

-- each of the first rows has the entry at its place, by a relation of rows and entries
pub record AreFirst {T : Type 0} (has : List Value → T → Type 0) (rows : List (List Value))
    (entries : List T) : Type 0 where
  pub few : length entries ≤ length rows
  pub each : (place : ℕ) (row : List Value) (entry : T) → slice_get rows place ≡ Some row
      → slice_get entries place ≡ Some entry
      → has row entry

-- a row has this integer in a column
abbrev pub HasInteger : (column : ℕ) → List Value → ℤ → Type 0
HasInteger column row integer = slice_get row column ≡ Some (Int integer)

-- a row has a value in a column, and it has this code
abbrev pub HasCode : (column : ℕ) → List Value → ℕ → Type 0
HasCode column row code = option_map code_of (slice_get row column) ≡ Some code

-- the first rows have these integers in a column
abbrev pub AreFirstIntegers : List (List Value) → (column : ℕ) → List ℤ → Type 0
AreFirstIntegers rows column integers = AreFirst (HasInteger column) rows integers

-- the values of the first rows in a column have these codes
abbrev pub AreFirstCodes : List (List Value) → (column : ℕ) → List ℕ → Type 0
AreFirstCodes rows column codes = AreFirst (HasCode column) rows codes

-- columns by their numbers have the integers of the first rows; past the last
-- one stands a column of none
abbrev pub AreIntegerColumns : List (List Value) → List (List ℤ) → Type 0
AreIntegerColumns rows columns =
    (column : ℕ) → AreFirstIntegers rows column (slice_index_or columns column [])

-- the same of the codes of values
abbrev pub AreCodeColumns : List (List Value) → List (List ℕ) → Type 0
AreCodeColumns rows columns =
    (column : ℕ) → AreFirstCodes rows column (slice_index_or columns column [])

-- a row has a text with this code in a column
abbrev pub HasText : (column : ℕ) → List Value → ℕ → Type 0
HasText column row code =
    (text : List ℕ) × (slice_get row column ≡ Some (Str text)) × (code_of (Str text) ≡ code)

-- of so many columns, each that had an entry for each row before has one more: the one that the new
-- row has there, if it has one
abbrev pub HaveOneMore : {T : Type 0} → (ℕ → List Value → T → Type 0) → (count before : ℕ)
    → List Value → (old new : List (List T)) → Type 0
HaveOneMore {T} has count before row old new =
    (column : ℕ) (entry : T) → column < count → has column row entry
    → length (slice_index_or old column []) ≡ before
    → slice_index_or new column [] ≡ slice_index_or old column [] ++ entry ∷ []

-- each column of integers that had those of all rows before, so many, has that of the new
-- row, where it has one there
abbrev pub KeepIntegers : (before : ℕ) → List Value → (old new : List (List ℤ)) → Type 0
KeepIntegers before row old new = HaveOneMore HasInteger MAX_COLUMNS before row old new

-- the same of the codes of texts
abbrev pub KeepCodes : (before : ℕ) → List Value → (old new : List (List ℕ)) → Type 0
KeepCodes before row old new = HaveOneMore HasText MAX_COLUMNS before row old new
