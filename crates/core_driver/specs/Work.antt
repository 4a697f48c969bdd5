-- How much work is left for the driver of a core: each event that it takes leaves less.
use Rattle.std.specs.Prelude.{◌≡◌, ◌⊎◌, ℕ, ◌+◌, ◌-◌, ◌*◌, ◌<◌, ◌==◌, List, count_by, length, sum_by}
use Rattle.std.specs.Int.{bit_at}
use Rattle.std.specs.List.{range_with_len}
use Rattle.pipeline_manager.specs.declared.life.Life.{Life}
use Rattle.pipeline_manager.specs.declared.life.Life.TheVariants.{Waiting, Building, Running}
use Rattle.pipeline_manager.specs.declared.life.QueryLife.{QueryLife}
use Rattle.pipeline_manager.specs.declared.life.SlotState.{SlotState}
use Rattle.pipeline_manager.specs.declared.life.SlotState.TheVariants.{Free, Held, Clearing}
use Rattle.core_state.specs.Events.{MayCut}
use Rattle.core_state.specs.State.{State}
use Rattle.core_state.specs.Tables.{versions_in}
use Rattle.core_driver.specs.Driven.{AdmitsOldest, MayGoOn, Rises}

-- how many positions are still to be cut for a query with this extent and life
abbrev pub to_cut : (extent : ℕ) → Life → ℕ
to_cut extent Waiting = extent
to_cut extent Building = extent
to_cut extent (Running start left) = left
to_cut extent other = 0

-- how many positions are still to be cut, each query by itself
abbrev pub all_to_cut : List QueryLife → ℕ
all_to_cut queries = sum_by (λ entry. to_cut entry.extent entry.life) queries

-- the most steps until a query with this life runs: those of its slot, too,
-- which it does not have yet
abbrev pub steps_to_run : Life → ℕ
steps_to_run Waiting = 20
steps_to_run Building = 1
steps_to_run other = 0

-- how many dimensions are in a set
abbrev pub size_of : (set : ℕ) → ℕ
size_of set = count_by (λ dimension. bit_at set dimension == 1) (range_with_len 0 8)

-- the most steps until a slot in this state is free: what is not built yet may still be, and what
-- is built is to be cleared
abbrev pub steps_to_free : SlotState → ℕ
steps_to_free Free = 0
steps_to_free (Held query built) = 18 - size_of built
steps_to_free (Clearing left) = 1 + size_of left

-- the most cuts that are still to come: each of them leaves fewer positions to cut, or comes
-- nearer to the last version
abbrev pub cuts_in : State → ℕ
cuts_in state =
    all_to_cut state.lives.queries * (versions_in state + 1)
    + (versions_in state - state.scan.position)

-- the work that is left: each cut makes a batch, which is to be distributed
abbrev pub work_in : State → ℕ
work_in state = 2 * cuts_in state
    + (sum_by (λ entry. steps_to_run entry.life) state.lives.queries
    + (sum_by steps_to_free state.lives.slots + length state.scan.flights))

-- events were taken that left less work, or none was taken
abbrev pub TookSome : (old new : State) → Type 0
TookSome old new = (new ≡ old) ⊎ (work_in new < work_in old)

-- where a batch might be cut, the count of positions rises, and less work is left
pub record CutsMore (old new : State) : Type 0 where
  pub cuts : MayCut old → Rises old.scan.cut new.scan.cut
  pub less : MayCut old → work_in new < work_in old

-- queries were brought on: the one that waited the longest does not wait any more, where a slot was
-- free, the count of positions rises where a batch might be cut, and less work is left where a
-- query might be admitted or a batch cut
pub record BringsOn (old new : State) : Type 0 where
  pub admits : AdmitsOldest old new
  pub cuts : MayCut old → Rises old.scan.cut new.scan.cut
  pub less : MayGoOn old → work_in new < work_in old
