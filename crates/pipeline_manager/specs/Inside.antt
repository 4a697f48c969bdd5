-- What the functions inside this crate say of its lists of queries and slots.
use Rattle.std.specs.Prelude.{◌≡◌, ℕ, ◌≤◌, ◌==◌, Bool, true, false, List, length, take, slice_index_or, All, if◌then◌else◌}
use Rattle.std.specs.Option.{option_map_or}
use Rattle.pipeline_manager.specs.declared.life.Life.{Life}
use Rattle.pipeline_manager.specs.declared.life.Life.TheVariants.{Waiting, Building, Running, Ending, Answered, Spoiled, Abandoned}
use Rattle.pipeline_manager.specs.declared.life.SlotState.{SlotState}
use Rattle.pipeline_manager.specs.declared.life.SlotState.TheVariants.{Free, Held, Clearing}
use Rattle.pipeline_manager.specs.declared.life.QueryLife.{QueryLife}
use Rattle.pipeline_manager.specs.Lives.{is_waiting, life_in}

-- none of the first queries waits, of which there are so many
abbrev pub NoneWaits : (count : ℕ) → List QueryLife → Type 0
NoneWaits count queries = All (λ entry. is_waiting entry.life ≡ false) (take count queries)

-- so many queries are in front of all that wait
pub record ArePassed (count : ℕ) (queries : List QueryLife) : Type 0 where
  pub in_range : count ≤ length queries
  pub none_waits : NoneWaits count queries

-- so many slots at the front have all that are in use: from there on each is Free
pub record UsesFirst (used : ℕ) (slots : List SlotState) : Type 0 where
  pub in_range : used ≤ length slots
  pub behind : (slot : ℕ) → used ≤ slot → slice_index_or slots slot Free ≡ Free

-- a query, changed if it has this number
abbrev pub changed_if : (query : ℕ) → (QueryLife → QueryLife) → QueryLife → QueryLife
changed_if query change entry = if entry.query == query then change entry else entry

-- whether the scan gives rows to a query
abbrev pub is_running : Life → Bool
is_running (Running start left) = true
is_running other = false

-- whether a query holds a slot in this state and is Running
abbrev pub holder_runs : List QueryLife → SlotState → Bool
holder_runs queries Free = false
holder_runs queries (Held query built) = option_map_or is_running (life_in queries query) false
holder_runs queries (Clearing left) = false
