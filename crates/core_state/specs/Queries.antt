-- The queries among the statements of a seat, and those of a core, side by side.
use Rattle.std.specs.Prelude.{ℕ, List, ◌++◌, filter_map, map, Option, option_map}
use Rattle.star_plan.specs.Test.{Query}
use Rattle.core_state.specs.State.{Accepted, Seat, Taken}
use Rattle.core_state.specs.Submitting.{asked_by, taken_by}

-- what a seat took and waits for, in the order of its statements
abbrev pub given_in : Seat → List Taken
given_in seat = seat.taken ++ map taken_by seat.pending

-- a statement that is a query: its number, and the query with its snapshot
abbrev pub query_by : Taken → Option (ℕ × (Query × ℕ))
query_by taken = option_map (λ asked. (taken.statement, asked)) (asked_by taken.told)

-- the queries among statements, in their order
abbrev pub queries_among : List Taken → List (ℕ × (Query × ℕ))
queries_among statements = filter_map query_by statements

-- the same of an accepted query
abbrev pub accepted_by : Accepted → ℕ × (Query × ℕ)
accepted_by accepted = (accepted.number, (accepted.query, accepted.snapshot))
