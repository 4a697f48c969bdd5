-- What a seat sends to a core, where in the list of entries each statement stands, and
-- which replies are right.
use Rattle.std.specs.Prelude.{◌≡◌, ◌≢◌, ◌⊎◌, ℕ, ◌≤◌, List, [], ◌∷◌, ◌++◌, All, filter_map, length, map, take, Option, Some, None, option_map, option_to_list}
use Rattle.script_reader.specs.declared.statement.Statement.{Statement}
use Rattle.query_meaning.specs.Alone.{alone}
use Rattle.query_meaning.specs.Store.{Store}
use Rattle.reply_text.specs.declared.reply.Reply.{Reply}
use Rattle.reply_text.specs.declared.reply.Reply.TheVariants.{Memory}
use Rattle.star_store.specs.Effect.{answer_reply}
use Rattle.star_store.specs.Outcome as outcome
use Rattle.star_store.specs.Outcome.{Told, outcome_of}
use Rattle.core_state.specs.State.{Entry, Pending, Taken}
use Rattle.core_state.specs.Submitting.{awaited_by, taken_by}
use Rattle.core_state.specs.Tables.{tables_by}

-- what is told of a statement behind these entries
abbrev pub told_behind : List Entry → Statement → Told
told_behind before statement = (outcome_of (tables_by before) statement).told

-- what a seat waits for that submitted a statement behind these entries
abbrev pub pending_behind : (number : ℕ) → List Entry → Statement → Pending
pending_behind number before statement =
    record { statement = number; awaited = awaited_by (told_behind before statement) }

-- the reply to a statement of which this is told over these tables: the reply itself, and to a
-- query its answer alone, or `memory`
abbrev pub AnswersTold : Store → Told → Reply → Type 0
AnswersTold store (outcome.Replied told) reply = reply ≡ told
AnswersTold store (outcome.Accepted query snapshot) reply =
    (reply ≡ answer_reply snapshot (alone store query snapshot)) ⊎ (reply ≡ Memory)

-- the reply to a statement that was submitted behind these entries
abbrev pub IsReplyBehind : List Entry → Statement → Reply → Type 0
IsReplyBehind before statement reply =
    AnswersTold (tables_by before) (told_behind before statement) reply

-- a statement that a seat sent: lost, since no memory was left for it, or given this number, with
-- so many entries before it
pub data Sent : Type 0 where
  Lost : Statement → Sent
  Given : (number point : ℕ) → Statement → Sent

-- the statement that was sent
abbrev pub statement_in : Sent → Statement
statement_in (Lost statement) = statement
statement_in (Given number point statement) = statement

-- the statements that were sent
abbrev pub statements_in : List Sent → List Statement
statements_in sent = map statement_in sent

-- what was sent has a number
abbrev pub IsGiven : Sent → Type 0
IsGiven (Lost statement) = ⊥
IsGiven (Given number point statement) = Unit {0}

-- its number, where it has one
abbrev pub number_in : Sent → Option ℕ
number_in (Lost statement) = None
number_in (Given number point statement) = Some number

-- the numbers of those that the core has
abbrev pub numbers_in : List Sent → List ℕ
numbers_in sent = filter_map number_in sent

-- what a seat waits for where it sent a statement to a core with these entries
abbrev pub pending_of : List Entry → Sent → Option Pending
pending_of entries (Lost statement) = None
pending_of entries (Given number point statement) =
    Some (pending_behind number (take point entries) statement)

-- the same of all that was sent
abbrev pub pendings_of : List Entry → List Sent → List Pending
pendings_of entries sent = filter_map (pending_of entries) sent

-- what a seat took where it took the reply to what was sent
abbrev pub taken_of : List Entry → Sent → Option Taken
taken_of entries sent = option_map taken_by (pending_of entries sent)

-- the same of all that was sent
abbrev pub takens_of : List Entry → List Sent → List Taken
takens_of entries sent = filter_map (taken_of entries) sent

-- the reply to what was sent: `memory` to what was lost, and else that to the statement
-- behind the entries before it
abbrev pub IsReplyTo : List Entry → Sent → Reply → Type 0
IsReplyTo entries (Lost statement) reply = reply ≡ Memory
IsReplyTo entries (Given number point statement) reply =
    (point ≤ length entries) × IsReplyBehind (take point entries) statement reply

-- a reply to each of what was sent, in order
abbrev pub AreRepliesTo : List Entry → List Sent → List Reply → Type 0
AreRepliesTo entries [] [] = Unit {0}
AreRepliesTo entries [] (reply ∷ replies) = ⊥
AreRepliesTo entries (one ∷ sent) [] = ⊥
AreRepliesTo entries (one ∷ sent) (reply ∷ replies) =
    IsReplyTo entries one reply × AreRepliesTo entries sent replies

-- the entry that a statement of a seat makes behind these entries, if it makes one
abbrev pub entry_made : (seat number : ℕ) → List Entry → Statement → List Entry
entry_made seat number before statement =
    map (λ change. record { seat = seat; statement = number; change = change })
    (option_to_list (outcome_of (tables_by before) statement).change)

-- the entries are of other seats
abbrev pub AreOfOthers : (seat : ℕ) → List Entry → Type 0
AreOfOthers seat entries = All (λ entry. entry.seat ≢ seat) entries

-- behind these entries come those that the statements of a seat make, each at its point, and
-- between them those of others
abbrev pub AreEntriesOf : (seat : ℕ) → (before : List Entry) → List Sent → (since : List Entry)
    → Type 0
AreEntriesOf seat before [] since = AreOfOthers seat since
AreEntriesOf seat before (Lost statement ∷ sent) since = AreEntriesOf seat before sent since
AreEntriesOf seat before (Given number point statement ∷ sent) since =
    (others : List Entry) × (after : List Entry)
    × (since ≡ others ++ (entry_made seat number (before ++ others) statement ++ after))
    × AreOfOthers seat others × (point ≡ length (before ++ others))
    × AreEntriesOf seat
    (before ++ (others ++ entry_made seat number (before ++ others) statement)) sent after
