-- A seat of the core by the statements that it submitted.
use Rattle.std.specs.Prelude.{◌≡◌, ℕ, ◌≤◌, ◌<◌, ◌==◌, ◌&&◌, Bool, true, false, List, length, take, drop, filter_map, slice_index_or, map, option_map, All, Option, Some, None}
use Rattle.std.specs.Option.{option_map_or}
use Rattle.reply_text.specs.declared.reply.Reply.TheVariants as reply
use Rattle.pipeline_manager.specs.Conditions.{is_open}
use Rattle.pipeline_manager.specs.Lives.{Lives, life_of}
use Rattle.core_parts.specs.Seated.{Asked, Awaited, Pending, Replied, Seat, Taken}
use Rattle.core_parts.specs.declared.submitted.Submitted.{Submitted}
use Rattle.core_parts.specs.declared.submitted.Standing.{Standing}
use Rattle.core_parts.specs.declared.submitted.Standing.TheVariants.{Waits, IsAsked, IsTaken, IsAnswered, IsAbandoned}
use Rattle.core_parts.specs.Known.{Known, known_at}

-- what a seat waits for where it waits for the query of this number
abbrev pub asked_as : List Known → (number : ℕ) → Awaited
asked_as known number =
    option_map_or (λ entry. Asked entry.query entry.snapshot)
    (known_at known number) (Replied reply.Memory)

-- what a seat waits for as the reply to a statement of this number, if it still waits
abbrev pub awaited_as : List Known → (number : ℕ) → Standing → Option Awaited
awaited_as known number (Waits answer) = Some (Replied answer)
awaited_as known number IsAsked = Some (asked_as known number)
awaited_as known number other = None

-- a statement that a seat waits for, if it still waits
abbrev pub pending_as : List Known → Submitted → Option Pending
pending_as known submitted =
    option_map (λ awaited. record { statement = submitted.number; awaited = awaited })
    (awaited_as known submitted.number submitted.standing)

-- a statement whose reply a seat took, if it took it, and what it waited for
abbrev pub took_as : List Known → (number : ℕ) → Standing → Option Taken
took_as known number (IsTaken reply) =
    Some (record { statement = number; told = Replied reply })
took_as known number IsAnswered =
    Some (record { statement = number; told = asked_as known number })
took_as known number other = None

-- a seat
abbrev pub seat_as : List Known → List Submitted → Seat
seat_as known statements = record {
  submitted = map (λ submitted. submitted.number) statements;
  pending = filter_map (pending_as known) statements;
  taken = filter_map (λ submitted. took_as known submitted.number submitted.standing) statements;
}

-- whether the reply to a statement is still waited for
abbrev pub is_waited : Standing → Bool
is_waited (Waits answer) = true
is_waited IsAsked = true
is_waited other = false

-- whether the reply to a statement was taken
abbrev pub is_taken : Standing → Bool
is_taken (IsTaken reply) = true
is_taken IsAnswered = true
is_taken other = false

-- how a statement stands whose reply is taken; where nobody waits for it there is none to take
abbrev pub when_taken : Standing → Standing
when_taken (Waits answer) = IsTaken answer
when_taken IsAsked = IsAnswered
when_taken other = IsAbandoned

-- a statement that stands otherwise
abbrev pub standing_as : Standing → Submitted → Submitted
standing_as standing submitted = record submitted { standing = standing }

-- none of the first statements is waited for, of which there are so many
abbrev pub NoneIsWaited : (count : ℕ) → List Submitted → Type 0
NoneIsWaited count statements =
    All (λ submitted. is_waited submitted.standing ≡ false) (take count statements)

-- of the statements from this place on the reply to none was taken
abbrev pub NoneIsTaken : (place : ℕ) → List Submitted → Type 0
NoneIsTaken place statements =
    All (λ submitted. is_taken submitted.standing ≡ false) (drop place statements)

-- none of the statements that were let go is waited for
abbrev pub AreGone : List Submitted → Type 0
AreGone gone = All (λ submitted. is_waited submitted.standing ≡ false) gone

-- the next reply is to a statement at this place or behind it, and so is none that was taken
pub record AreInTurn (next : ℕ) (statements : List Submitted) : Type 0 where
  pub in_range : next ≤ length statements
  pub none_is_waited : NoneIsWaited next statements
  pub none_is_taken : NoneIsTaken next statements

-- whether a statement has this number and is waited for
abbrev pub is_waited_as : (number : ℕ) → Submitted → Bool
is_waited_as number submitted = submitted.number == number && is_waited submitted.standing

-- no statement of this number is waited for
abbrev pub NoneIsWaitedAs : (number : ℕ) → List Submitted → Type 0
NoneIsWaitedAs number statements =
    All (λ submitted. is_waited_as number submitted ≡ false) statements

-- the statement at this place has this number and is waited for
pub record IsWaitedAt (number place : ℕ) (statements : List Submitted) : Type 0 where
  pub within : place < length statements
  pub waited : (d : Submitted) → is_waited_as number (slice_index_or statements place d) ≡ true

-- whether a statement is waited for and is a query that may still be answered
abbrev pub is_open_in : Lives → Submitted → Bool
is_open_in lives submitted =
    is_waited submitted.standing && option_map_or is_open (life_of lives submitted.number) false
