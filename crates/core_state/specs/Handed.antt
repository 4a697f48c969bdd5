-- What the parts that hold a core's rows have, where they are those of a core.
use Rattle.std.specs.Prelude.{◌≡◌, ℕ, ◌==◌, false, if◌then◌else◌, List, length, map, filter_map, slice_index_or, slice_set, Option, Some, None, IfSome}
use Rattle.std.specs.Int.{bit_at}
use Rattle.std.specs.List.{range_with_len}
use Rattle.std.specs.Option.{option_and_then, option_map_or}
use Rattle.star_values.specs.Roomy.{Roomy}
use Rattle.dimension_rows.specs.declared.dimension_row.DimensionRow.{DimensionRow}
use Rattle.query_meaning.specs.KeptTables.{rows_of_all}
use Rattle.query_meaning.specs.Keyed.{KeyedStore}
use Rattle.pipeline_manager.specs.Lives.{Lives, life_of, slot_at, slot_of}
use Rattle.aggregations.specs.Grouped.{Grouped}
use Rattle.core_state.specs.declared.event.Event.{Event}
use Rattle.core_state.specs.declared.event.Event.TheVariants.{Start, Distribute, Finish, Abandon}
use Rattle.core_state.specs.Cutting.{gets_rows}
use Rattle.core_state.specs.Found.{holder_of}
use Rattle.core_state.specs.Scanned.{AreTablesOf}
use Rattle.core_state.specs.State.{State}
use Rattle.core_state.specs.Submitting.{groups_in}

-- tables with key numbers, and dimensions with room for more rows, that are the tables of a core
pub record AreKeyedTablesOf (state : State) (keyed : KeyedStore)
    (dims : List (Roomy DimensionRow)) : Type 0 where
  pub tables : AreTablesOf state keyed
  pub dimensions : rows_of_all dims ≡ keyed.dimensions

-- the query that holds a slot, where it gets rows
abbrev pub fed_at : State → (slot : ℕ) → Option ℕ
fed_at state slot = option_and_then
    (λ number.
    if option_map_or gets_rows (life_of state.lives number) false then Some number else None)
    (holder_of (slot_at state.lives slot))

-- the queries that hold the slots of a set, of those that get rows
abbrev pub fed_in : State → (slots : ℕ) → List ℕ
fed_in state slots =
    filter_map (λ slot. if bit_at slots slot == 1 then fed_at state slot else None)
    (range_with_len 0 (length state.lives.slots))

-- what is kept of the rows of the query that holds a slot, where it gets rows
abbrev pub attached_at : State → (slot : ℕ) → Option Grouped
attached_at state slot = option_and_then (groups_in state) (fed_at state slot)

-- what a distributor has at each slot
abbrev pub attached_to : State → List (Option Grouped)
attached_to state = map (attached_at state) (range_with_len 0 (length state.lives.slots))

-- a distributor has what the core keeps at each slot whose query gets rows; it may
-- have anything at the others
pub record HasWhatIsKept (state : State) (attached : List (Option Grouped)) : Type 0 where
  pub count : length attached ≡ length state.lives.slots
  pub each : (slot : ℕ)
      → IfSome (attached_at state slot) (λ groups. slice_index_or attached slot None ≡ Some groups)

-- what is attached, without what the query had that holds a slot, where it holds one
abbrev pub detached_for : Lives → (query : ℕ) → List (Option Grouped) → List (Option Grouped)
detached_for lives query attached =
    option_map_or (λ slot. slice_set attached slot None) (slot_of lives query) attached

-- an event by which no query begins to get rows or ceases to, and no rows are folded
abbrev pub LeavesAttached : Event → Type 0
LeavesAttached (Start query) = ⊥
LeavesAttached (Distribute batch) = ⊥
LeavesAttached (Finish slot) = ⊥
LeavesAttached (Abandon query) = ⊥
LeavesAttached other = Unit {0}
