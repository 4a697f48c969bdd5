-- The numbers of a list of replies, and their line.
use Rattle.std.specs.Prelude.{ℕ, ◌-◌, ◌^◌, min, Bool, true, false, List, ◌++◌, length, sum, count_by, codes, decimal}
use Rattle.std.specs.List.{sum_by}
use Rattle.reply_text.specs.Text.{text_of_all}
use Rattle.reply_text.specs.declared.reply.Reply.{Reply}
use Rattle.reply_text.specs.declared.reply.Reply.TheVariants.{Answer, Commit, Memory, Overflow, Refused}
use Rattle.make_load.specs.declared.totals.Summary.{Summary}

-- the reply to an accepted load or delete
abbrev pub is_commit : Reply → Bool
is_commit (Commit number rows) = true
is_commit _ = false

-- an answer
abbrev pub is_answer : Reply → Bool
is_answer (Answer snapshot rows) = true
is_answer _ = false

-- the reply to a query with a sum that is too great
abbrev pub is_overflow : Reply → Bool
is_overflow (Overflow snapshot) = true
is_overflow _ = false

-- a refusal
abbrev pub is_refused : Reply → Bool
is_refused (Refused refusal) = true
is_refused _ = false

-- the reply to a statement that found no memory
abbrev pub is_memory : Reply → Bool
is_memory Memory = true
is_memory _ = false

-- how many rows an answer has; any other reply has none
abbrev pub answered_rows : Reply → ℕ
answered_rows (Answer snapshot rows) = length rows
answered_rows _ = 0

-- a number, or the greatest of 64 bits where it is greater
abbrev pub capped : ℕ → ℕ
capped n = min n (2 ^ 64 - 1)

-- how many replies there are and how many of each kind, the rows of all answers, and the
-- length and the sum of the text
unfoldable pub summary_of : List Reply → Summary
summary_of replies = record {
  statements = length replies;
  commits = count_by is_commit replies;
  answers = count_by is_answer replies;
  rows = sum_by answered_rows replies;
  overflows = count_by is_overflow replies;
  refused = count_by is_refused replies;
  memory = count_by is_memory replies;
  bytes = length (text_of_all replies);
  sum = capped (sum (text_of_all replies));
}

-- the line of a summary: its numbers, each behind its name
unfoldable pub summary_text : Summary → List ℕ
summary_text s =
    codes "summary statements " ++ decimal s.statements ++ codes " commits " ++ decimal s.commits
    ++ codes " answers " ++ decimal s.answers ++ codes " rows " ++ decimal s.rows
    ++ codes " overflows " ++ decimal s.overflows ++ codes " refused " ++ decimal s.refused
    ++ codes " memory " ++ decimal s.memory ++ codes " bytes " ++ decimal s.bytes
    ++ codes " sum " ++ decimal s.sum ++ codes "\n"
