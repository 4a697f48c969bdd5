-- Folding of which seats have a part with them: what is seen of it, and what comes home.
use Rattle.std.specs.Prelude.{◌≡◌, ℕ, ◌+◌, ◌≤◌, List, All, length, slice_index, slice_index_or, Option, None, IsSome, IfSome}
use Rattle.bit_words.specs.Sets.{Has}
use Rattle.star_values.specs.Roomy.{Roomy}
use Rattle.fact_versions.specs.declared.version.Version.{Version}
use Rattle.dimension_rows.specs.declared.dimension_row.DimensionRow.{DimensionRow}
use Rattle.batch_flow.specs.Rows.{Rows}
use Rattle.aggregations.specs.Grouped.{Grouped}
use Rattle.distributor.specs.Folded.{after_batch}

-- what went out with a seat: the slots, and the groups that it has at them
pub record Lending : Type 0 where
  pub slots : ℕ
  pub groups : List (Option Grouped)

-- what is seen of a shared distributor: the groups at each slot, with all that the seats have
-- folded taken in, and for each seat what went out with it
pub record SharedGroups : Type 0 where
  pub attached : List (Option Grouped)
  pub out : List (Option Lending)

-- no seat that is out has a slot
abbrev pub IsAllIn : (slot : ℕ) → List (Option Lending) → Type 0
IsAllIn slot out = All (λ lending. IfSome lending (λ one. ¬ (Has one.slots slot))) out

-- no row of a batch has the bit of another slot than these
abbrev pub AreBitsWithin : Rows → (slots : ℕ) → Type 0
AreBitsWithin batch slots = (row slot : ℕ) → Has (slice_index batch.bits row) slot → Has slots slot

-- the groups that went out have the rows of a batch, but for the slots that found no memory:
-- these had groups and some row
pub record AreFolded (dims : List (Roomy DimensionRow)) (batch : Rows) (versions : List Version)
    (missing : ℕ)
    (own : List (Option Grouped)) (lending : Lending) : Type 0 where
  pub within : batch.first + batch.count ≤ length versions
  pub folded : own ≡ after_batch dims batch versions missing lending.groups
  pub lost : (slot : ℕ) → Has missing slot
      → IsSome (slice_index_or lending.groups slot None) × (row : ℕ)
      × Has (slice_index batch.bits row) slot
