-- A scan and tables as the code has them, where they are those of the core.
use Rattle.std.specs.Prelude.{◌≡◌, ℕ, ◌<◌, List, length, slice_index_or, Option, Some, None}
use Rattle.std.specs.Option.{option_and_then}
use Rattle.star_plan.specs.Test.{query_of}
use Rattle.query_meaning.specs.Keyed.{IsKeyed, KeyedStore, plain}
use Rattle.pipeline_manager.specs.declared.life.Life.{Life}
use Rattle.pipeline_manager.specs.declared.life.Life.TheVariants as life
use Rattle.pipeline_manager.specs.Lives.{Lives, life_of, slot_at}
use Rattle.continuous_scan.specs.Scanning.{Running, Scanning}
use Rattle.core_state.specs.declared.event.Event.{Event}
use Rattle.core_state.specs.declared.event.Event.TheVariants.{Start, Cut, Abandon}
use Rattle.core_state.specs.Found.{holder_of, running_at}
use Rattle.core_state.specs.State.{OnRoster, State}
use Rattle.core_state.specs.Tables.{tables_of}
pub use Rattle.core_parts.specs.Held.{stopped_for}

-- a query that runs in a slot, as the scan has it and as the core has it, with its life
pub record IsSameRun (now : Option Life) (entry : OnRoster) (running : Running) : Type 0 where
  pub query : query_of running.query ≡ entry.query
  pub snapshot : running.snapshot ≡ entry.snapshot
  pub extent : running.extent ≡ entry.extent
  pub life : now ≡ Some (life.Running running.start running.left)

-- the scan has in a slot what the core says that runs there
abbrev pub RunsAs : (now : Option Life) → Option OnRoster → Option Running → Type 0
RunsAs now None None = Unit {0}
RunsAs now None (Some running) = ⊥
RunsAs now (Some entry) None = ⊥
RunsAs now (Some entry) (Some running) = IsSameRun now entry running

-- the life of the query that holds a slot, if one does
abbrev pub life_at : Lives → (slot : ℕ) → Option Life
life_at lives slot = option_and_then (life_of lives) (holder_of (slot_at lives slot))

-- the scan has in a slot what runs in it
abbrev pub RunsAt : State → (running : List (Option Running)) → (slot : ℕ) → Type 0
RunsAt state running slot =
    RunsAs (life_at state.lives slot) (running_at state slot) (slice_index_or running slot None)

-- a scan stands where the core's stands, and has the queries that run in the core
pub record IsScannedAs (state : State) (scan : Scanning) : Type 0 where
  pub position : scan.position ≡ state.scan.position
  pub count : length scan.running ≡ length state.lives.slots
  pub slots : (slot : ℕ) → slot < length state.lives.slots → RunsAt state scan.running slot

-- tables with key numbers that are the tables of the core
pub record AreTablesOf (state : State) (store : KeyedStore) : Type 0 where
  pub same : plain store ≡ tables_of state
  pub keyed : IsKeyed store

-- an event by which the scan is not moved, and no query begins to run or ceases to
abbrev pub LeavesScan : Event → Type 0
LeavesScan (Start query) = ⊥
LeavesScan Cut = ⊥
LeavesScan (Abandon query) = ⊥
LeavesScan other = Unit {0}
