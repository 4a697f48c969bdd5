-- The lives of queries and the states of slots, as plain data.
use Rattle.std.specs.Prelude.{ℕ, Bool, true, false, ◌==◌, List, Option, option_map, find, position, slice_index_or}
use Rattle.std.specs.Option.{option_map_or}
use Rattle.pipeline_manager.specs.declared.life.Life.{Life}
use Rattle.pipeline_manager.specs.declared.life.Life.TheVariants.{Waiting, Building, Running, Ending, Answered, Spoiled, Abandoned}
use Rattle.pipeline_manager.specs.declared.life.SlotState.{SlotState}
use Rattle.pipeline_manager.specs.declared.life.SlotState.TheVariants.{Free, Held, Clearing}
use Rattle.pipeline_manager.specs.declared.life.QueryLife.{QueryLife}

-- the queries in the order of their submission, the state of each slot from slot 0 on, and the set
-- of the dimensions that are filters
pub record Lives : Type 0 where
  pub queries : List QueryLife
  pub slots : List SlotState
  pub filters : ℕ

-- the query with this number, if it was submitted
abbrev pub query_in : List QueryLife → (query : ℕ) → Option QueryLife
query_in queries query = find (λ entry. entry.query == query) queries

-- the life of the query with this number, if it was submitted
abbrev pub life_in : List QueryLife → (query : ℕ) → Option Life
life_in queries query = option_map (λ entry. entry.life) (query_in queries query)

-- the same of all queries
abbrev pub life_of : Lives → (query : ℕ) → Option Life
life_of lives query = life_in lives.queries query

-- the extent of the query with this number, 0 where none has it
abbrev pub extent_in : List QueryLife → (query : ℕ) → ℕ
extent_in queries query = option_map_or (λ entry. entry.extent) (query_in queries query) 0

-- whether a query waits for a slot
abbrev pub is_waiting : Life → Bool
is_waiting Waiting = true
is_waiting other = false

-- the number of the first query that waits, if any does
abbrev pub oldest_waiting : Lives → Option ℕ
oldest_waiting lives =
    option_map (λ entry. entry.query) (find (λ entry. is_waiting entry.life) lives.queries)

-- the state of a slot; past the last slot it is Free
abbrev pub slot_at : Lives → (slot : ℕ) → SlotState
slot_at lives slot = slice_index_or lives.slots slot Free

-- whether nothing uses a slot
abbrev pub is_free : SlotState → Bool
is_free Free = true
is_free (Held query built) = false
is_free (Clearing left) = false

-- the least slot that is Free, if any is
abbrev pub free_slot : Lives → Option ℕ
free_slot lives = position is_free lives.slots

-- whether this query holds a slot
abbrev pub is_held_by : (query : ℕ) → SlotState → Bool
is_held_by query Free = false
is_held_by query (Held holder built) = holder == query
is_held_by query (Clearing left) = false

-- the first slot that the query holds, if it holds one
abbrev pub slot_of : Lives → (query : ℕ) → Option ℕ
slot_of lives query = position (is_held_by query) lives.slots

-- the set of the dimensions that are built for the holder of a slot
abbrev pub built_in : SlotState → ℕ
built_in Free = 0
built_in (Held query built) = built
built_in (Clearing left) = 0

-- the set of the dimensions that are built for a query, empty where it holds no slot
abbrev pub built_of : Lives → (query : ℕ) → ℕ
built_of lives query = option_map_or (λ slot. built_in (slot_at lives slot)) (slot_of lives query) 0
