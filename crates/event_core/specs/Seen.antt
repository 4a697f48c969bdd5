-- Which state of the core the parts stand for.
use Rattle.std.specs.Prelude.{ℕ, List, [], ◌∷◌, length, map, slice_index_or, Option, Some, None}
use Rattle.std.specs.Option.{option_and_then}
use Rattle.star_plan.specs.Test.{query_of}
use Rattle.query_meaning.specs.History.{Change}
use Rattle.query_meaning.specs.Keyed.{plain}
use Rattle.query_meaning.specs.Store.{Store}
use Rattle.pipeline_manager.specs.Lives.{Lives, slot_of}
use Rattle.aggregations.specs.Grouped.{Grouped}
use Rattle.core_state.specs.Logged.{changes_told}
use Rattle.core_state.specs.State.{Accepted, Entry, State}
use Rattle.event_core.specs.declared.logged.Logged.{Logged}
use Rattle.core_parts.specs.Flights.{flights_as}
use Rattle.core_parts.specs.Known.{Known, Reach, reaches_in}
use Rattle.core_parts.specs.Asked.{AskedQuery, known_in}
use Rattle.event_core.specs.CoreParts.{CoreParts}
use Rattle.core_parts.specs.Seats.{seat_as}

-- the groups that are attached at the slot that a query holds, if it holds one and some are
abbrev pub attached_for : Lives → (attached : List (Option Grouped)) → (query : ℕ) → Option Grouped
attached_for lives attached query =
    option_and_then (λ slot. slice_index_or attached slot None) (slot_of lives query)

-- the groups that are attached, and else those that are kept beside
abbrev pub attached_or : (attached kept : Option Grouped) → Option Grouped
attached_or None kept = kept
attached_or (Some groups) kept = Some groups

-- an accepted query with what is kept of its rows
abbrev pub accepted_as : Lives → (attached : List (Option Grouped)) → AskedQuery → Accepted
accepted_as lives attached asked = record {
  number = asked.number;
  seat = asked.seat;
  query = query_of asked.query;
  snapshot = asked.snapshot;
  groups = attached_or (attached_for lives attached asked.number) asked.kept;
}

-- the accepted queries
abbrev pub accepted_in : Lives → (attached : List (Option Grouped)) → List AskedQuery
    → List Accepted
accepted_in lives attached asked = map (accepted_as lives attached) asked

-- the entries of a log with their changes, in order
abbrev pub entries_with : List Logged → List Change → List Entry
entries_with [] changes = []
entries_with (logged ∷ log) [] = []
entries_with (logged ∷ log) (change ∷ changes) =
    record { seat = logged.seat; statement = logged.statement; change = change }
    ∷ entries_with log changes

-- the entries of a log, whose changes the tables tell
abbrev pub entries_as : Store → List Logged → List Entry
entries_as store log = entries_with log (changes_told store 0 1 (map (λ logged. logged.kind) log))

-- the state with these accepted queries, where this is known of them and they go so far
abbrev pub state_with : CoreParts → List Accepted → List Known → List Reach → State
state_with parts accepted known reaches = record {
  settings = parts.settings;
  entries = entries_as (plain parts.tables) parts.log;
  seats = map (seat_as known) parts.seats;
  accepted = accepted;
  lives = parts.lives;
  filters = parts.filters;
  scan = record {
    position = parts.scan.position;
    flights = flights_as known reaches parts.flights;
    free = length parts.pool.inside;
    cut = parts.cut;
  };
  numbers = parts.numbers;
}

-- the state
abbrev pub state_of : CoreParts → State
state_of parts =
    state_with parts (accepted_in parts.lives parts.attached parts.asked)
    (known_in parts.asked) (reaches_in parts.lives.queries)
