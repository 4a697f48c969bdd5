-- What is found in the core by its number.
use Rattle.std.specs.Prelude.{ℕ, Bool, false, ◌==◌, not, List, filter_map, find, Option, Some, None, option_map, if◌then◌else◌}
use Rattle.std.specs.List.{list_all, list_any}
use Rattle.std.specs.Int.{bit_at}
use Rattle.std.specs.Option.{option_map_or, option_and_then}
use Rattle.pipeline_manager.specs.declared.life.Life.{Life}
use Rattle.pipeline_manager.specs.declared.life.Life.TheVariants.{Running}
use Rattle.pipeline_manager.specs.Lives.{Lives, extent_in, life_of, slot_at}
use Rattle.core_state.specs.State.{Accepted, FilterVersion, Filters, Flight, OnRoster, State}
pub use Rattle.core_parts.specs.Filtered.{version_at}
pub use Rattle.core_parts.specs.Held.{holder_of}

-- the accepted query of a number
abbrev pub accepted_at : List Accepted → (number : ℕ) → Option Accepted
accepted_at accepted number = find (λ entry. entry.number == number) accepted

-- the batch in flight of a number
abbrev pub flight_at : List Flight → (number : ℕ) → Option Flight
flight_at flights number = find (λ flight. flight.rows.number == number) flights

-- whether a batch is in the hand of a worker
abbrev pub is_held_by : (worker : ℕ) → Flight → Bool
is_held_by worker flight = option_map_or (λ hand. hand.worker == worker) flight.hand false

-- the batch in the hand of a worker
abbrev pub held_by : List Flight → (worker : ℕ) → Option Flight
held_by flights worker = find (is_held_by worker) flights

-- whether a batch passed the filter of a dimension
abbrev pub has_passed : Flight → (dimension : ℕ) → Bool
has_passed flight dimension = bit_at flight.rows.passed dimension == 1

-- the next filter of a batch: the first of the present order that it did not pass
abbrev pub next_filter : Filters → Flight → Option FilterVersion
next_filter filters flight =
    option_and_then (version_at filters.versions)
    (find (λ dimension. not (has_passed flight dimension)) filters.order)

-- what a batch has still to pass: the present versions of the filters that it did not
-- pass, in their present order
abbrev pub filters_left : Filters → Flight → List FilterVersion
filters_left filters flight = filter_map
    (λ dimension.
    if has_passed flight dimension then None else version_at filters.versions dimension)
    filters.order

-- whether no row of a batch has a bit left
abbrev pub is_empty : Flight → Bool
is_empty flight = list_all (λ bits. bits == 0) flight.rows.bits

-- whether a batch passed every filter
abbrev pub has_passed_all : Filters → Flight → Bool
has_passed_all filters flight = list_all (has_passed flight) filters.order

-- whether a slot is in the roster of a batch
abbrev pub is_on_roster : (slot : ℕ) → Flight → Bool
is_on_roster slot flight = list_any (λ entry. entry.slot == slot) flight.roster

-- where the lap of a running query began
abbrev pub start_in : Life → Option ℕ
start_in (Running start left) = Some start
start_in other = None

-- where the lap of the query in a slot began, if one runs there
abbrev pub start_at : Lives → (slot : ℕ) → Option ℕ
start_at lives slot =
    option_and_then start_in (option_and_then (life_of lives) (holder_of (slot_at lives slot)))

-- the slots of a query's life: what a roster says of it
abbrev pub entry_of : Lives → (slot : ℕ) → Accepted → OnRoster
entry_of lives slot accepted = record {
  slot = slot;
  number = accepted.number;
  query = accepted.query;
  snapshot = accepted.snapshot;
  extent = extent_in lives.queries accepted.number;
}

-- the query that runs in a slot, as it stands on a roster
abbrev pub running_at : State → (slot : ℕ) → Option OnRoster
running_at state slot = option_and_then
    (λ start. option_map (entry_of state.lives slot)
    (option_and_then (accepted_at state.accepted) (holder_of (slot_at state.lives slot))))
    (start_at state.lives slot)
