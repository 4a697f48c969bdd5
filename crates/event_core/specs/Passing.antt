-- What becomes of the parts where all batches go through the filters that they meet.
use Rattle.std.specs.Prelude.{All, map}
use Rattle.core_state.specs.Events.{IsThrough}
use Rattle.core_parts.specs.Passed.{flight_behind, with_flights_done}
use Rattle.event_core.specs.Chosen.{IsPassing}
use Rattle.event_core.specs.Core.{IsCore}
use Rattle.event_core.specs.CoreParts.{CoreParts}
use Rattle.event_core.specs.Seen.{state_of}
use Rattle.event_core.specs.Took.{IsLed}

-- `pass_all`
abbrev pub all_passed : CoreParts → CoreParts
all_passed parts = record parts {
  filters = with_flights_done parts.flights parts.filters;
  flights = map (flight_behind parts.filters) parts.flights;
}

-- the parts are then those of a core to which the front led by taking batches and giving them back,
-- and each batch has passed every filter or has no bit left
pub record AllPass (parts : CoreParts) : Type 0 where
  pub core : IsCore (all_passed parts)
  pub led : IsLed IsPassing (state_of parts) (state_of (all_passed parts))
  pub through : All (IsThrough (state_of (all_passed parts)).filters)
      (state_of (all_passed parts)).scan.flights
