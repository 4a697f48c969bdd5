-- The integers of versions, side by side.
use Rattle.std.specs.Prelude.{◌≡◌, ℕ, ℤ, pos, List, length, slice_get, slice_index_or, Some}
use Rattle.star_values.specs.declared.value.Value.TheVariants.{Int}
use Rattle.fact_versions.specs.declared.version.Version.{Version}

-- versions have these integers in a column, each its own
pub record HaveIntegers (versions : List Version) (column : ℕ) (integers : List ℤ) : Type 0 where
  pub count : length integers ≡ length versions
  pub each : (row : ℕ) (version : Version) → slice_get versions row ≡ Some version
      → slice_get version.row column ≡ Some (Int (slice_index_or integers row (pos 0)))
