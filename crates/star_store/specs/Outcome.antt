-- What a statement does over the tables: at most one change, and what is told of it, its reply
-- or the query that it asks.
use Rattle.std.specs.Prelude.{ℕ, ◌+◌, List, [], Option, Some, None, is_none, Result, Ok, Err, if◌then◌else◌}
use Rattle.star_values.specs.declared.refusal.Refusal.{Refusal}
use Rattle.star_values.specs.declared.refusal.Refusal.TheVariants.{OutOfOrder}
use Rattle.script_reader.specs.declared.statement.Statement.{Statement}
use Rattle.script_reader.specs.declared.statement.Block.{Block}
use Rattle.script_reader.specs.declared.statement.Block.TheVariants.{Absent, Closed, Unclosed}
use Rattle.star_parser.specs.Condition.{Condition}
use Rattle.star_parser.specs.Statement as written
use Rattle.star_plan.specs.Test.{Query, Test}
use Rattle.star_plan.specs.declared.table_def.TableDef.{TableDef}
use Rattle.star_plan.specs.Declaration.{declared_dimension, declared_fact}
use Rattle.star_binder.specs.Named.{where_conjuncts}
use Rattle.star_binder.specs.Refused.{bound_delete, bound_select}
use Rattle.star_binder.specs.Select.{SelectParts, select_of}
use Rattle.star_binder.specs.Table.{declared_table}
use Rattle.query_meaning.specs.History.{Change, DimensionDeclared, FactDeclared}
use Rattle.query_meaning.specs.Store.{Store}
use Rattle.star_store.specs.Deletes.{delete_change}
use Rattle.star_store.specs.Done.{changed_rows}
use Rattle.star_store.specs.Loads.{load_change}
use Rattle.reply_text.specs.declared.reply.Reply.{Reply}
use Rattle.reply_text.specs.declared.reply.Reply.TheVariants as reply
use Rattle.star_store.specs.Text.{meaning_of}

-- what is told of a statement: its reply, or the query that it asks with its snapshot
pub data Told : Type 0 where
  Replied : Reply → Told
  Accepted : Query → (snapshot : ℕ) → Told

-- a change, where there is one, and what is told
pub record Outcome : Type 0 where
  pub change : Option Change
  pub told : Told

-- no change
abbrev pub only_tells : Told → Outcome
only_tells told = record { change = None; told = told }

-- no change, and the reply `refused`
abbrev pub refused : Refusal → Outcome
refused reason = only_tells (Replied (reply.Refused reason))

-- the change of a declaration and the reply with the table's name, or refused for this reason
abbrev pub declared : (TableDef → Change) → (name : List ℕ) → Result TableDef Refusal → Outcome
declared change name (Ok table) =
    record { change = Some (change table); told = Replied (reply.Table name) }
declared change name (Err reason) = refused reason

-- a change that is the next commit, or refused for this reason
abbrev pub committed : Store → Result Change Refusal → Outcome
committed store (Ok change) =
    record {
      change = Some change;
      told = Replied (reply.Commit (store.commits + 1) (changed_rows change));
    }
committed store (Err reason) = refused reason

-- the bytes behind a line
abbrev pub block_bytes : Block → List ℕ
block_bytes Absent = []
block_bytes (Closed block) = block
block_bytes (Unclosed block) = block

-- a delete on this condition, or refused for this reason
abbrev pub deleted : Store → Result (Option Test) Refusal → Outcome
deleted store (Ok condition) = committed store (delete_change store condition)
deleted store (Err reason) = refused reason

-- a delete from the table of a name, which is looked at once the fact table is declared
abbrev pub delete_outcome : Store → (name : List ℕ) → (conjuncts : List Condition) → Outcome
delete_outcome store name conjuncts =
    if is_none store.schema.fact then refused OutOfOrder
    else deleted store (bound_delete store.schema name conjuncts)

-- a select that is this query, with the last commit as its snapshot, or refused for this reason
abbrev pub selected : Store → Result Query Refusal → Outcome
selected store (Ok query) = only_tells (Accepted query store.commits)
selected store (Err reason) = refused reason

-- a select, which is looked at once the fact table is declared
abbrev pub select_outcome : Store → SelectParts → Outcome
select_outcome store select =
    if is_none store.schema.fact then refused OutOfOrder
    else selected store (bound_select store.schema select)

-- the outcome of a statement of this meaning
abbrev pub meaning_outcome : Store → Block → written.Statement → Outcome
meaning_outcome store block (written.Dimension name columns) =
    declared DimensionDeclared name
    (declared_dimension store.schema (declared_table store.schema (written.Dimension name columns)))
meaning_outcome store block (written.Fact name columns) =
    declared FactDeclared name
    (declared_fact store.schema (declared_table store.schema (written.Fact name columns)))
meaning_outcome store block (written.Load name header) =
    committed store (load_change store name header (block_bytes block))
meaning_outcome store block (written.Delete name condition) =
    delete_outcome store name (where_conjuncts condition)
meaning_outcome store block (written.Select items names condition groups) =
    select_outcome store (select_of items names condition groups)
meaning_outcome store block written.Wait = only_tells (Replied reply.Waited)

-- the outcome of what a statement means, or refused for its text
abbrev pub outcome_by : Store → Block → Result written.Statement Refusal → Outcome
outcome_by store block (Ok meaning) = meaning_outcome store block meaning
outcome_by store block (Err reason) = refused reason

-- the outcome of a statement where these are the tables
unfoldable pub outcome_of : Store → Statement → Outcome
outcome_of store statement = outcome_by store statement.block (meaning_of statement)
