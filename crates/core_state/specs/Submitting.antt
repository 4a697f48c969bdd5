-- What becomes of the core where a statement is submitted, its reply is taken,
-- or its query is abandoned.
use Rattle.std.specs.Prelude.{ℕ, ◌+◌, ◌==◌, List, [], ◌∷◌, ◌++◌, length, map, fold, take, slice_get, replicate, slice_set, slice_index_or, Option, Some, None, option_map, if◌then◌else◌}
use Rattle.std.specs.Option.{option_and_then, option_map_or}
use Rattle.script_reader.specs.declared.statement.Statement.{Statement}
use Rattle.query_meaning.specs.History.{Change, FactDeclared}
use Rattle.star_store.specs.Outcome as outcome
use Rattle.star_store.specs.Outcome.{Told, outcome_of}
use Rattle.reply_text.specs.declared.reply.Reply.{Reply}
use Rattle.reply_text.specs.declared.reply.Reply.TheVariants.{Memory}
use Rattle.pipeline_manager.specs.Changes.{after_abandon, after_submit}
use Rattle.pipeline_manager.specs.Lives.{life_of}
use Rattle.pipeline_manager.specs.declared.life.Life.{Life}
use Rattle.pipeline_manager.specs.declared.life.Life.TheVariants as life
use Rattle.bit_words.specs.Sets.{with_number}
use Rattle.aggregations.specs.Grouped.{Grouped, grouped_of}
use Rattle.core_state.specs.Found.{accepted_at}
use Rattle.core_state.specs.Numbered.{counted}
use Rattle.core_state.specs.State.{Accepted, Asked, Awaited, Pending, Replied, Seat, State}
use Rattle.core_state.specs.Tables.{filter_dimensions, tables_of, versions_in}
pub use Rattle.core_parts.specs.Seated.{asked_by, empty_seat, taken_by, with_taken, without_pending}
pub use Rattle.core_parts.specs.Filtered.{first_version, first_versions}

-- what a seat waits for, where this is told of its statement
abbrev pub awaited_by : Told → Awaited
awaited_by (outcome.Replied reply) = Replied reply
awaited_by (outcome.Accepted query snapshot) = Asked query snapshot

-- a seat with a statement more
abbrev pub with_statement : (statement : ℕ) → Told → Seat → Seat
with_statement statement told seat = record seat {
  submitted = seat.submitted ++ statement ∷ [];
  pending = seat.pending ++ record { statement = statement; awaited = awaited_by told } ∷ [];
}

-- the core of which a seat is changed
abbrev pub with_seat : (seat : ℕ) → (Seat → Seat) → State → State
with_seat seat change state =
    record state {
      seats = slice_set state.seats seat (change (slice_index_or state.seats seat empty_seat));
    }

-- the core with a filter for each of these dimensions, in the order of their numbers
abbrev pub with_filters : (dimensions : List ℕ) → State → State
with_filters dimensions state = record state {
  lives = record state.lives { filters = fold with_number 0 dimensions };
  filters = record {
    versions = first_versions dimensions (state.numbers.version + 1);
    tallies = replicate (length dimensions) (record { probes = 0; drops = 0 });
    order = dimensions;
  };
  numbers = record state.numbers { version = counted state.numbers.version (length dimensions) };
}

-- the core with the filters that a change asks for: the fact table, as it is declared, has one for
-- each dimension that it references
abbrev pub filters_by : Change → State → State
filters_by (FactDeclared table) state =
    with_filters (filter_dimensions (tables_of state).schema) state
filters_by other state = state

-- the core with the change of a statement
abbrev pub with_change : (seat statement : ℕ) → Change → State → State
with_change seat statement change state =
    filters_by change
    (record state {
      entries = state.entries
          ++ record { seat = seat; statement = statement; change = change } ∷ [];
    })

-- the core with an accepted query, which waits
abbrev pub with_query : (seat statement : ℕ) → Told → State → State
with_query seat statement (outcome.Replied reply) state = state
with_query seat statement (outcome.Accepted query snapshot) state = record state {
  accepted = state.accepted ++ record {
    number = statement;
    seat = seat;
    query = query;
    snapshot = snapshot;
    groups = Some (grouped_of query []);
  } ∷ [];
  lives = after_submit statement (versions_in state) state.lives;
}

-- the core with what a statement changes and what is told of it
abbrev pub with_outcome : (seat statement : ℕ) → outcome.Outcome → State → State
with_outcome seat statement outcome state =
    with_query seat statement outcome.told
    (option_map_or (λ change. with_change seat statement change state) outcome.change state)

-- the core after a statement of a seat with this outcome: the statement has the next number
abbrev pub after_outcome : (seat : ℕ) → outcome.Outcome → State → State
after_outcome seat found state =
    let number = state.numbers.statement + 1 in
    with_outcome seat number found
    (with_seat seat (with_statement number found.told)
    (record state { numbers = record state.numbers { statement = number } }))

-- `submit`: the statement has its effect at once; a query waits with its snapshot and its extent
abbrev pub after_submitting : (seat : ℕ) → Statement → State → State
after_submitting seat statement state =
    after_outcome seat (outcome_of (tables_of state) statement) state

-- a query of which nothing is kept any more
abbrev pub forgotten : (query : ℕ) → Accepted → Accepted
forgotten query accepted =
    if accepted.number == query then record accepted { groups = None } else accepted

-- `abandon`: nobody waits for the query, and nothing is kept of its rows
abbrev pub after_abandoning : (query : ℕ) → State → State
after_abandoning query state = option_map_or
    (λ accepted. with_seat accepted.seat (without_pending query) (record state {
      accepted = map (forgotten query) state.accepted;
      lives = after_abandon query state.lives;
    })) (accepted_at state.accepted query) state

-- a reply that is taken: the reply itself, or the groups of an answered query with its snapshot
pub data Ready : Type 0 where
  Whole : Reply → Ready
  Grouping : (snapshot : ℕ) → Grouped → Ready

-- the groups that are kept for a query
abbrev pub groups_in : State → (query : ℕ) → Option Grouped
groups_in state query =
    option_map_or (λ accepted. accepted.groups) (accepted_at state.accepted query) None

-- what a query with this life replies, where it replies yet
abbrev pub ready_by : State → (query snapshot : ℕ) → Life → Option Ready
ready_by state query snapshot life.Answered = option_map (Grouping snapshot) (groups_in state query)
ready_by state query snapshot life.Spoiled = Some (Whole Memory)
ready_by state query snapshot other = None

-- the reply to a statement of this number that a seat waits for, where it may be taken
abbrev pub ready_to : State → (statement : ℕ) → Awaited → Option Ready
ready_to state statement (Replied reply) = Some (Whole reply)
ready_to state statement (Asked query snapshot) =
    option_and_then (ready_by state statement snapshot) (life_of state.lives statement)

-- the seat of a number
abbrev pub seat_at : State → (seat : ℕ) → Seat
seat_at state seat = slice_index_or state.seats seat empty_seat

-- the reply that a seat may take: that to the first statement that it waits for
abbrev pub next_ready : State → (seat : ℕ) → Option Ready
next_ready state seat =
    option_and_then (λ pending. ready_to state pending.statement pending.awaited)
    (slice_get (seat_at state seat).pending 0)

-- nothing is kept any more of the queries of these statements
abbrev pub without_groups : List Pending → List Accepted → List Accepted
without_groups pending accepted =
    fold (λ kept asked. map (forgotten asked.statement) kept) accepted pending

-- the reply of a seat's first statement is taken
abbrev pub after_taking : (seat : ℕ) → State → State
after_taking seat state =
    with_seat seat with_taken
    (record state {
      accepted = without_groups (take 1 (seat_at state seat).pending) state.accepted;
    })
