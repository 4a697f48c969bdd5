-- Which queries that were replied to are answered.
use Rattle.std.specs.Prelude.{◌≡◌, ◌⊎◌, ℕ, List, [], ◌∷◌, Option, Some, IfSome}
use Rattle.reply_text.specs.declared.reply.Reply.{Reply}
use Rattle.reply_text.specs.declared.reply.Reply.TheVariants.{Memory}
use Rattle.pipeline_manager.specs.Lives.{Lives, life_of}
use Rattle.pipeline_manager.specs.declared.life.Life.TheVariants.{Answered}
use Rattle.core_state.specs.Sent.{Sent, taken_of}
use Rattle.core_state.specs.State.{Entry, Taken}
use Rattle.core_state.specs.Submitting.{asked_by}

-- a query that was answered stays so
abbrev pub StayAnswered : (old new : Lives) → Type 0
StayAnswered old new =
    (query : ℕ) → life_of old query ≡ Some Answered → life_of new query ≡ Some Answered

-- what was taken is answered, if it is a query, unless the reply is `memory`
abbrev pub IsAnswered : Lives → Option Taken → Reply → Type 0
IsAnswered lives taken reply =
    (reply ≡ Memory)
    ⊎ IfSome taken (λ one.
    IfSome (asked_by one.told) (λ asked. life_of lives one.statement ≡ Some Answered))

-- so it is with each of what was sent to a core with these entries, and its reply
abbrev pub AreAnswered : Lives → List Entry → List Sent → List Reply → Type 0
AreAnswered lives entries [] replies = Unit {0}
AreAnswered lives entries (one ∷ said) [] = Unit {0}
AreAnswered lives entries (one ∷ said) (reply ∷ replies) =
    IsAnswered lives (taken_of entries one) reply × AreAnswered lives entries said replies
