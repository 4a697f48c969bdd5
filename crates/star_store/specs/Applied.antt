-- What applying a statement answers, and the tables that it leaves.
use Rattle.std.specs.Prelude.{◌≡◌, Option, Some, None, option_map, Result, Ok, Err, ⊤}
use Rattle.star_values.specs.declared.no_memory.NoMemory.{NoMemory}
use Rattle.star_plan.specs.Over.{IsOver}
use Rattle.star_plan.specs.Test.{query_of}
use Rattle.query_meaning.specs.Keyed.{KeyedStore, plain}
use Rattle.star_store.specs.declared.done.Done.{Done}
use Rattle.star_values.specs.declared.statement_fault.StatementFault.{StatementFault}
use Rattle.star_values.specs.declared.statement_fault.StatementFault.TheVariants.{Refused, Memory}
use Rattle.reply_text.specs.declared.reply.Reply.TheVariants as reply
use Rattle.star_store.specs.Effect.{store_by}
use Rattle.star_store.specs.Kinds.{kind_of_change}
use Rattle.star_store.specs.Outcome as outcome
use Rattle.star_store.specs.Outcome.{Outcome, Told}
use Rattle.star_store.specs.declared.applied.Applied.{Applied}
use Rattle.star_store.specs.declared.applied.Applied.TheVariants.{Replied, Changed, Accepted}
use Rattle.star_store.specs.declared.applied.ChangeKind.{ChangeKind}

-- what an answer tells
abbrev pub told_by : Applied → Told
told_by (Replied reply) = outcome.Replied reply
told_by (Changed kind reply) = outcome.Replied reply
told_by (Accepted query snapshot) = outcome.Accepted (query_of query) snapshot

-- the kind of change that an answer tells
abbrev pub kind_by : Applied → Option ChangeKind
kind_by (Replied reply) = None
kind_by (Changed kind reply) = Some kind
kind_by (Accepted query snapshot) = None

-- an accepted query is one over the schema, and leaves all as it was, key numbers too
abbrev pub IsAsked : KeyedStore → KeyedStore → Applied → Type 0
IsAsked old new (Replied reply) = ⊤
IsAsked old new (Changed kind reply) = ⊤
IsAsked old new (Accepted query snapshot) = IsOver old.schema (query_of query) × (new ≡ old)

-- at Ok the answer tells the outcome and the kind of its change, and the tables are those after it;
-- at Err they are as they were
abbrev pub Follows : {E : Type 0} → KeyedStore → KeyedStore → Result Applied E → Outcome → Type 0
Follows old new (Ok applied) found =
    (told_by applied ≡ found.told) × (kind_by applied ≡ option_map kind_of_change found.change)
    × (plain new ≡ store_by (plain old) found) × IsAsked old new applied
Follows old new (Err fault) found = new ≡ old

-- what is answered to a load or delete of this kind that was carried out or refused: its commit,
-- the reason, or that memory was wanted
abbrev pub TellsDone : ChangeKind → Result Done StatementFault → Result Applied NoMemory → Type 0
TellsDone kind (Ok done) (Ok applied) = applied ≡ Changed kind (reply.Commit done.commit done.rows)
TellsDone kind (Ok done) (Err none) = ⊥
TellsDone kind (Err (Refused reason)) (Ok applied) = applied ≡ Replied (reply.Refused reason)
TellsDone kind (Err (Refused reason)) (Err none) = ⊥
TellsDone kind (Err Memory) (Ok applied) = ⊥
TellsDone kind (Err Memory) (Err none) = ⊤
