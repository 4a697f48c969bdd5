-- What a seat of the core submitted, waits for and took.
use Rattle.std.specs.Prelude.{ℕ, ◌==◌, not, ◌++◌, List, [], map, filter, take, drop, Option, Some, None}
use Rattle.star_plan.specs.Test.{Query}
use Rattle.reply_text.specs.declared.reply.Reply.{Reply}

-- what a seat waits for: the reply to a statement, or the answer of a query at its snapshot
pub data Awaited : Type 0 where
  Replied : Reply → Awaited
  Asked : Query → (snapshot : ℕ) → Awaited

-- a statement whose reply was not taken, and was not abandoned
pub record Pending : Type 0 where
  pub statement : ℕ
  pub awaited : Awaited

-- a statement whose reply was taken, and what was waited for
pub record Taken : Type 0 where
  pub statement : ℕ
  pub told : Awaited

-- what a seat submitted, what it waits for, and what it took, each in the order of its statements
pub record Seat : Type 0 where
  pub submitted : List ℕ
  pub pending : List Pending
  pub taken : List Taken

-- a seat that did nothing
abbrev pub empty_seat : Seat
empty_seat = record { submitted = []; pending = []; taken = [] }

-- a seat without a statement that it waits for
abbrev pub without_pending : (statement : ℕ) → Seat → Seat
without_pending statement seat =
    record seat { pending = filter (λ pending. not (pending.statement == statement)) seat.pending }

-- the query with its snapshot, where a query is waited for
abbrev pub asked_by : Awaited → Option (Query × ℕ)
asked_by (Replied reply) = None
asked_by (Asked query snapshot) = Some (query, snapshot)

-- a statement whose reply is taken
abbrev pub taken_by : Pending → Taken
taken_by pending = record { statement = pending.statement; told = pending.awaited }

-- a seat that has taken the reply to the first statement that it waits for
abbrev pub with_taken : Seat → Seat
with_taken seat = record seat {
  pending = drop 1 seat.pending;
  taken = seat.taken ++ map taken_by (take 1 seat.pending);
}
