-- What the core is, as plain data.
use Rattle.std.specs.Prelude.{ℕ, List, Option}
use Rattle.star_plan.specs.Test.{Query}
use Rattle.query_meaning.specs.History.{Change}
use Rattle.pipeline_manager.specs.Lives.{Lives}
use Rattle.aggregations.specs.Grouped.{Grouped}
use Rattle.core_state.specs.declared.settings.RunSettings.{RunSettings}
-- the parts, which are defined where their code is
pub use Rattle.core_parts.specs.Seated.{Asked, Awaited, Pending, Replied, Seat, Taken}
pub use Rattle.core_parts.specs.Filtered.{Filters, FilterVersion}
pub use Rattle.core_parts.specs.InFlight.{Flight, Hand, OnRoster}

-- an entry of the history: the seat and the number of the statement that made a change
pub record Entry : Type 0 where
  pub seat : ℕ
  pub statement : ℕ
  pub change : Change

-- an accepted query: its number, which is that of its statement, its seat, the query, its snapshot,
-- and what is kept of its rows, as long as they may still be asked for
pub record Accepted : Type 0 where
  pub number : ℕ
  pub seat : ℕ
  pub query : Query
  pub snapshot : ℕ
  pub groups : Option Grouped

-- where the scan stands, the batches in flight in the order in which they were cut, how many frames
-- are free for more, and how many positions were cut in all
pub record ScanState : Type 0 where
  pub position : ℕ
  pub flights : List Flight
  pub free : ℕ
  pub cut : ℕ

-- the last numbers that were given to a statement, a batch and a version
pub record Numbers : Type 0 where
  pub statement : ℕ
  pub batch : ℕ
  pub version : ℕ

-- the core as plain data: what it was set to, what is told of the tables, and where seats, queries,
-- filters and the scan stand
pub record State : Type 0 where
  pub settings : RunSettings
  pub entries : List Entry
  pub seats : List Seat
  pub accepted : List Accepted
  pub lives : Lives
  pub filters : Filters
  pub scan : ScanState
  pub numbers : Numbers
