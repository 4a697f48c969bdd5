-- What holds of the lives and slots of every manager, whatever calls made it.
use Rattle.std.specs.Prelude.{ℕ, ◌≤◌, ◌<◌, List, Option, length, All, count_by}
use Rattle.std.specs.List.{AllPairs}
use Rattle.std.specs.Option.{option_map_or}
use Rattle.bit_words.specs.Sets.{Has}
use Rattle.bit_words.specs.declared.slots.TheConstants.{MAX_SLOTS}
use Rattle.pipeline_manager.specs.declared.life.Life.{Life}
use Rattle.pipeline_manager.specs.declared.life.Life.TheVariants.{Waiting, Building, Running, Ending, Answered, Spoiled, Abandoned}
use Rattle.pipeline_manager.specs.declared.life.SlotState.{SlotState}
use Rattle.pipeline_manager.specs.declared.life.SlotState.TheVariants.{Free, Held, Clearing}
use Rattle.pipeline_manager.specs.declared.life.QueryLife.{QueryLife}
use Rattle.pipeline_manager.specs.Lives.{Lives, life_in, is_held_by}

-- each query has a greater number than those before it
abbrev pub AreRising : List QueryLife → Type 0
AreRising queries = AllPairs (λ entry later. entry.query < later.query) queries

-- how many slots a query holds
abbrev pub slots_held : (query : ℕ) → List SlotState → ℕ
slots_held query slots = count_by (is_held_by query) slots

-- the fewest slots that a query with this life holds
abbrev pub fewest_slots : Life → ℕ
fewest_slots Building = 1
fewest_slots (Running start left) = 1
fewest_slots Ending = 1
fewest_slots other = 0

-- the most slots that a query with this life holds
abbrev pub most_slots : Life → ℕ
most_slots Waiting = 0
most_slots Answered = 0
most_slots other = 1

-- so many slots are as many as a query with this life holds, and a number
-- that no query has holds none
abbrev pub FitsSlots : Option Life → (held : ℕ) → Type 0
FitsSlots life held =
    (option_map_or fewest_slots life 0 ≤ held) × (held ≤ option_map_or most_slots life 0)

-- something is left of a Running query, and no more than its extent
abbrev pub IsLeft : (extent : ℕ) → Life → Type 0
IsLeft extent (Running start left) = (1 ≤ left) × (left ≤ extent)
IsLeft extent other = Unit {0}

-- only filters are built for a slot's holder, and only filters are to be cleared
abbrev pub IsOfFilters : (filters : ℕ) → SlotState → Type 0
IsOfFilters filters Free = Unit {0}
IsOfFilters filters (Held query built) =
    (dimension : ℕ) → Has built dimension → Has filters dimension
IsOfFilters filters (Clearing left) = (dimension : ℕ) → Has left dimension → Has filters dimension

-- the numbers of queries rise, there are from 1 to 64 slots, each query holds as many slots as
-- its life says and no other number holds one, something is left of each Running query, and the
-- bits are those of filters
pub record AreSoundLives (lives : Lives) : Type 0 where
  pub rising : AreRising lives.queries
  pub some : 1 ≤ length lives.slots
  pub few : length lives.slots ≤ MAX_SLOTS
  pub held : (query : ℕ) → FitsSlots (life_in lives.queries query) (slots_held query lives.slots)
  pub left : All (λ entry. IsLeft entry.extent entry.life) lives.queries
  pub of_filters : All (IsOfFilters lives.filters) lives.slots
