-- What a seat takes as the reply to the first statement that it waits for.
use Rattle.std.specs.Prelude.{ℕ, Bool, true, false, not, if◌then◌else◌, List, find, Option, Some, None}
use Rattle.std.specs.Option.{option_and_then, option_map_or}
use Rattle.reply_text.specs.declared.reply.Reply.TheVariants.{Memory}
use Rattle.aggregations.specs.Grouped.{Grouped}
use Rattle.pipeline_manager.specs.Conditions.{is_open}
use Rattle.pipeline_manager.specs.Lives.{Lives, life_of}
use Rattle.core_state.specs.Submitting.{Grouping, Ready, Whole}
use Rattle.core_parts.specs.declared.submitted.Standing.{Standing}
use Rattle.core_parts.specs.declared.submitted.Standing.TheVariants.{Waits, IsAsked}
use Rattle.core_parts.specs.declared.submitted.Submitted.{Submitted}
use Rattle.core_parts.specs.Asked.{AskedQuery, asked_at}
use Rattle.core_parts.specs.Seats.{is_waited}

-- what is kept beside the query of a number, if there is one
abbrev pub kept_for : List AskedQuery → (number : ℕ) → Option Grouped
kept_for asked number = option_and_then (λ entry. entry.kept) (asked_at asked number)

-- the snapshot of the query of a number, 0 where there is none
abbrev pub snapshot_for : List AskedQuery → (number : ℕ) → ℕ
snapshot_for asked number = option_map_or (λ entry. entry.snapshot) (asked_at asked number) 0

-- what is kept beside a query, and else `memory`
abbrev pub groups_or_memory : (snapshot : ℕ) → (kept : Option Grouped) → Ready
groups_or_memory snapshot kept = option_map_or (Grouping snapshot) kept (Whole Memory)

-- the reply to a statement that stands so, where this is kept beside a query of its number
abbrev pub ready_with : Standing → (snapshot : ℕ) → (kept : Option Grouped) → Ready
ready_with (Waits answer) snapshot kept = Whole answer
ready_with other snapshot kept = groups_or_memory snapshot kept

-- whether the reply to a statement that stands so may be taken: it is no query
-- that may still be answered
abbrev pub may_be_taken : Lives → (number : ℕ) → Standing → Bool
may_be_taken lives number IsAsked = not (option_map_or is_open (life_of lives number) false)
may_be_taken lives number other = true

-- the number of a statement, if the reply to it may be taken
abbrev pub number_to_take : Lives → Submitted → Option ℕ
number_to_take lives submitted =
    if may_be_taken lives submitted.number submitted.standing then Some submitted.number else None

-- the number of the first of these statements that is waited for, if the reply to it may be taken
abbrev pub next_number : Lives → List Submitted → Option ℕ
next_number lives statements =
    option_and_then (number_to_take lives)
    (find (λ submitted. is_waited submitted.standing) statements)
