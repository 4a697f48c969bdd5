-- What becomes of the core where a query gets a slot, its filters and its start,
-- and where it leaves them.
use Rattle.std.specs.Prelude.{ℕ, ◌==◌, List, map, flat_map, slice_index_or, if◌then◌else◌}
use Rattle.std.specs.Option.{option_map_or}
use Rattle.star_plan.specs.Test.{Query, Selection, Unnamed}
use Rattle.query_meaning.specs.Store.{rows_in}
use Rattle.pipeline_manager.specs.Changes.{after_built, after_cleared, after_end, after_free, after_reserve, after_run, after_spoil}
use Rattle.pipeline_manager.specs.Lives.{slot_of}
use Rattle.dimension_filter.specs.Changes.{filter_with, filter_without}
use Rattle.dimension_filter.specs.Filter.{Filter}
use Rattle.continuous_scan.specs.Range.{first_of}
use Rattle.core_parts.specs.InFlight.{numbers_in_hand}
use Rattle.core_state.specs.Found.{accepted_at}
use Rattle.core_state.specs.Numbered.{last_after, next_number}
use Rattle.core_state.specs.State.{Flight, State}
use Rattle.core_state.specs.Submitting.{forgotten}
use Rattle.core_state.specs.Tables.{tables_of, versions_in}

-- `reserve`: the query that waits the longest holds the slot
abbrev pub after_reserving : (slot : ℕ) → State → State
after_reserving slot state = record state { lives = after_reserve slot state.lives }

-- the numbers of the versions in hands
abbrev pub versions_in_hands : List Flight → List ℕ
versions_in_hands flights = flat_map (λ flight. numbers_in_hand flight.hand) flights

-- the core with the next version of the filter of a dimension
abbrev pub with_version : (dimension : ℕ) → (Filter → Filter) → State → State
with_version dimension change state =
    let number = next_number state.numbers.version (versions_in_hands state.scan.flights) in
    record state {
      filters = record state.filters {
        versions = map (λ version. if version.filter.dimension == dimension
            then record { number = number; filter = change version.filter }
            else version) state.filters.versions;
      };
      numbers = record state.numbers { version = last_after state.numbers.version };
    }

-- what a query takes of a dimension; what it does not speak of, it does not name
abbrev pub selection_in : Query → (dimension : ℕ) → Selection
selection_in query dimension = slice_index_or query.choices dimension Unnamed

-- the next version of the filter of a dimension, with a query in its slot
abbrev pub with_built : (query dimension : ℕ) → State → State
with_built query dimension state = option_map_or
    (λ slot. option_map_or
    (λ accepted. with_version dimension
    (filter_with slot (selection_in accepted.query dimension)
    (rows_in (tables_of state).dimensions dimension))
    state)
    (accepted_at state.accepted query) state)
    (slot_of state.lives query) state

-- `build`: the filter has the query, which is built for it
abbrev pub after_build : (query dimension : ℕ) → State → State
after_build query dimension state =
    let built = with_built query dimension state in
    record built { lives = after_built query dimension state.lives }

-- the query found no memory: the filters stay, and it has no answer
abbrev pub after_build_wants : (query : ℕ) → State → State
after_build_wants query state = record state {
  accepted = map (forgotten query) state.accepted;
  lives = after_spoil query state.lives;
}

-- `start`: the query begins its lap where the scan stands
abbrev pub after_start : (query : ℕ) → State → State
after_start query state =
    record state {
      lives = after_run query (first_of state.scan.position (versions_in state)) state.lives;
    }

-- `finish`: the slot is taken from its query, and is to be cleared
abbrev pub after_finish : (slot : ℕ) → State → State
after_finish slot state = record state { lives = after_end slot state.lives }

-- `clear`: no row has the slot any more in the filter of a dimension
abbrev pub after_clear : (slot dimension : ℕ) → State → State
after_clear slot dimension state =
    let cleared = with_version dimension (filter_without slot) state in
    record cleared { lives = after_cleared slot dimension state.lives }

-- `release`: the slot is free
abbrev pub after_release : (slot : ℕ) → State → State
after_release slot state = record state { lives = after_free slot state.lives }
