-- Batches in flight: idle, in a worker's hand, or lent to the worker whose hand it is.
use Rattle.std.specs.Prelude.{ℕ, Bool, if◌then◌else◌, List, filter_map, Option, None, option_map}
use Rattle.batch_flow.specs.Rows.{Rows}
use Rattle.core_parts.specs.InFlight.{Hand}

-- a batch in flight, for each slot of its roster the number of the query that held it as the batch
-- was cut, the hand that it is in, and whether the worker whose hand it is has it
pub record Flight : Type 0 where
  pub batch : Rows
  pub holders : List ℕ
  pub hand : Option Hand
  pub lent : Bool

-- a batch that is lent, and the hand that it is in
pub record Lent : Type 0 where
  pub batch : Rows
  pub hand : Hand

-- the workers to which batches are lent
abbrev pub lent_to : List Flight → List ℕ
lent_to flights =
    filter_map (λ flight.
    if flight.lent then option_map (λ hand. hand.worker) flight.hand else None)
    flights
