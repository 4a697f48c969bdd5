-- What has to hold where a call is made.
use Rattle.std.specs.Prelude.{◌≡◌, ℕ, ◌≤◌, ◌<◌, Bool, true, false, All, Any, Some, IsSome, IsTrue}
use Rattle.std.specs.Option.{option_map_or}
use Rattle.bit_words.specs.Sets.{Has}
use Rattle.pipeline_manager.specs.declared.life.Life.{Life}
use Rattle.pipeline_manager.specs.declared.life.Life.TheVariants.{Waiting, Building, Running, Ending, Answered, Spoiled, Abandoned}
use Rattle.pipeline_manager.specs.declared.life.SlotState.{SlotState}
use Rattle.pipeline_manager.specs.declared.life.SlotState.TheVariants.{Free, Held, Clearing}
use Rattle.pipeline_manager.specs.Lives.{Lives, life_of, oldest_waiting, slot_at, built_of}
use Rattle.pipeline_manager.specs.Changes.{covered}

-- the number is greater than those of all queries
abbrev pub IsNew : (query : ℕ) → Lives → Type 0
IsNew query lives = All (λ entry. entry.query < query) lives.queries

-- some query waits, and the slot is Free
pub record CanReserve (slot : ℕ) (lives : Lives) : Type 0 where
  pub waiting : IsSome (oldest_waiting lives)
  pub is_free : slot_at lives slot ≡ Free

-- the query is Building, and the dimension is a filter that is not built for it
pub record CanBuild (query dimension : ℕ) (lives : Lives) : Type 0 where
  pub building : life_of lives query ≡ Some Building
  pub filters : Has lives.filters dimension
  pub not_built : ¬ (Has (built_of lives query) dimension)

-- the query is Building, and every filter is built for it
pub record CanRun (query : ℕ) (lives : Lives) : Type 0 where
  pub building : life_of lives query ≡ Some Building
  pub all_built : (dimension : ℕ) → Has lives.filters dimension
      → Has (built_of lives query) dimension

-- the life is Running
abbrev pub IsRunning : Life → Type 0
IsRunning (Running start left) = Unit {0}
IsRunning other = ⊥

-- so many positions are left of a Running query
abbrev pub HasLeft : (positions : ℕ) → Life → Type 0
HasLeft positions (Running start left) = positions ≤ left
HasLeft positions other = Unit {0}

-- some query is Running, and of each Running query as much is left as the
-- range covers of its extent
pub record CanCutRange (first last : ℕ) (lives : Lives) : Type 0 where
  pub running : Any (λ entry. IsRunning entry.life) lives.queries
  pub in_order : first ≤ last
  pub enough : All (λ entry. HasLeft (covered first last entry.extent) entry.life) lives.queries

-- whether nothing more is to come for a query that holds a slot
abbrev pub gives_up : Life → Bool
gives_up Ending = true
gives_up Spoiled = true
gives_up Abandoned = true
gives_up other = false

-- a slot in this state is held by a query that is Ending, Spoiled or Abandoned
abbrev pub IsHolderOver : SlotState → Lives → Type 0
IsHolderOver Free lives = ⊥
IsHolderOver (Held query built) lives = IsTrue (option_map_or gives_up (life_of lives query) false)
IsHolderOver (Clearing left) lives = ⊥

-- the slot is held by a query that is Ending, Spoiled or Abandoned
abbrev pub CanEnd : (slot : ℕ) → Lives → Type 0
CanEnd slot lives = IsHolderOver (slot_at lives slot) lives

-- a slot in this state is Clearing, and the dimension is still to be cleared
abbrev pub IsToClear : (dimension : ℕ) → SlotState → Type 0
IsToClear dimension Free = ⊥
IsToClear dimension (Held query built) = ⊥
IsToClear dimension (Clearing left) = Has left dimension

-- the slot is Clearing, and the dimension is still to be cleared
abbrev pub CanClear : (slot dimension : ℕ) → Lives → Type 0
CanClear slot dimension lives = IsToClear dimension (slot_at lives slot)

-- the slot is Clearing, and no dimension is still to be cleared
abbrev pub CanFree : (slot : ℕ) → Lives → Type 0
CanFree slot lives = slot_at lives slot ≡ Clearing 0

-- whether a query has a slot and may still be answered
abbrev pub is_begun : Life → Bool
is_begun Building = true
is_begun (Running start left) = true
is_begun Ending = true
is_begun other = false

-- the query is Building, Running or Ending
abbrev pub CanSpoil : (query : ℕ) → Lives → Type 0
CanSpoil query lives = IsTrue (option_map_or is_begun (life_of lives query) false)

-- whether a query may still be answered
abbrev pub is_open : Life → Bool
is_open Answered = false
is_open Spoiled = false
is_open Abandoned = false
is_open other = true

-- the query is Waiting, Building, Running or Ending
abbrev pub CanAbandon : (query : ℕ) → Lives → Type 0
CanAbandon query lives = IsTrue (option_map_or is_open (life_of lives query) false)
