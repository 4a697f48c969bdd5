-- What the groups that a core keeps, and the replies that seats take, say.
use Rattle.std.specs.Prelude.{◌≡◌, ◌⊎◌, ℕ, List, Some}
use Rattle.star_plan.specs.Answer.{answer_of}
use Rattle.star_plan.specs.Joined.{Joined}
use Rattle.star_plan.specs.Test.{Query}
use Rattle.query_meaning.specs.Alone.{alone}
use Rattle.query_meaning.specs.Store.{Store}
use Rattle.star_store.specs.Effect.{answer_reply}
use Rattle.reply_text.specs.declared.reply.Reply.{Reply}
use Rattle.reply_text.specs.declared.reply.Reply.TheVariants.{Memory}
use Rattle.pipeline_manager.specs.Lives.{life_of}
use Rattle.pipeline_manager.specs.declared.life.Life.TheVariants.{Answered, Spoiled}
use Rattle.aggregations.specs.Grouped.{Grouped, grouped_of}
use Rattle.core_state.specs.State.{Asked, Awaited, Replied, State}
use Rattle.core_state.specs.Submitting.{Grouping, Ready, Whole}
use Rattle.core_state.specs.Tables.{tables_of}

-- groups are those of rows whose answer is that of the query alone at a snapshot
pub record AnswersAlone (store : Store) (query : Query) (snapshot : ℕ)
    (groups : Grouped) : Type 0 where
  pub rows : List Joined
  pub of_rows : groups ≡ grouped_of query rows
  pub answer : answer_of query rows ≡ alone store query snapshot

-- what a seat may take is right as the reply to what it waits for: the reply that was told; to a
-- query that found no memory `memory`; to a query that is answered groups that answer it as it
-- is alone at its snapshot
abbrev pub IsRight : State → (statement : ℕ) → Awaited → Ready → Type 0
IsRight state statement (Replied reply) ready = ready ≡ Whole reply
IsRight state statement (Asked query snapshot) (Whole reply) =
    (reply ≡ Memory) × (life_of state.lives statement ≡ Some Spoiled)
IsRight state statement (Asked query snapshot) (Grouping at groups) =
    (at ≡ snapshot) × (life_of state.lives statement ≡ Some Answered)
    × AnswersAlone (tables_of state) query snapshot groups

-- the reply that a taken one is: a whole one as it is, or the answer of its groups at its snapshot,
-- whichever rows they are of; where that finds no memory it is `memory`
abbrev pub IsTakenAs : Ready → Reply → Type 0
IsTakenAs (Whole ready) reply = reply ≡ ready
IsTakenAs (Grouping snapshot groups) reply = (reply ≡ Memory) ⊎
    ((query : Query) (rows : List Joined) → groups ≡ grouped_of query rows
    → reply ≡ answer_reply snapshot (answer_of query rows))

-- what a seat may take gives this reply, or `memory` where the query found none: it is the reply,
-- or groups of rows whose answer at the snapshot is
abbrev pub Gives : State → (statement : ℕ) → Reply → Ready → Type 0
Gives state statement wanted (Whole reply) =
    (reply ≡ wanted) ⊎ ((reply ≡ Memory) × (life_of state.lives statement ≡ Some Spoiled))
Gives state statement wanted (Grouping snapshot groups) =
    (query : Query) × (rows : List Joined) × (groups ≡ grouped_of query rows)
    × (wanted ≡ answer_reply snapshot (answer_of query rows))
