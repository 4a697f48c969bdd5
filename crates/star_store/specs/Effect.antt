-- The effect of a statement: its change, if it makes one, and its reply. A query is answered as
-- evaluated alone over the commits before it.
use Rattle.std.specs.Prelude.{ℕ, Option}
use Rattle.std.specs.Option.{option_map_or}
use Rattle.script_reader.specs.declared.statement.Statement.{Statement}
use Rattle.star_plan.specs.declared.answer.Answer.{Answer}
use Rattle.star_plan.specs.declared.answer.Answer.TheVariants.{Rows, Overflow}
use Rattle.query_meaning.specs.Alone.{alone}
use Rattle.query_meaning.specs.History.{Change, after_change}
use Rattle.query_meaning.specs.Store.{Store}
use Rattle.reply_text.specs.declared.reply.Reply.{Reply}
use Rattle.reply_text.specs.declared.reply.Reply.TheVariants as reply
use Rattle.star_store.specs.Outcome.{Outcome, Told, Replied, Accepted, outcome_of}

-- a change, where there is one, and the reply
pub record Effect : Type 0 where
  pub change : Option Change
  pub reply : Reply

-- the reply that gives an answer at a snapshot
abbrev pub answer_reply : (snapshot : ℕ) → Answer → Reply
answer_reply snapshot (Rows rows) = reply.Answer snapshot rows
answer_reply snapshot Overflow = reply.Overflow snapshot

-- the reply to what is told: a query's is its answer alone
abbrev pub reply_to : Store → Told → Reply
reply_to store (Replied answer) = answer
reply_to store (Accepted query snapshot) = answer_reply snapshot (alone store query snapshot)

-- the effect that an outcome has
abbrev pub effect_by : Store → Outcome → Effect
effect_by store outcome = record { change = outcome.change; reply = reply_to store outcome.told }

-- the effect of a statement where these are the tables
abbrev pub effect_of : Store → Statement → Effect
effect_of store statement = effect_by store (outcome_of store statement)

-- the tables after what an outcome changes
abbrev pub store_by : Store → Outcome → Store
store_by store outcome = option_map_or (after_change store) outcome.change store

-- the tables after one statement more
abbrev pub store_after : Store → Statement → Store
store_after store statement = store_by store (outcome_of store statement)
