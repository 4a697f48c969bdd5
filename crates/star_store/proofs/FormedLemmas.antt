-- The outcome of a statement has a reply that is well-formed, and a change that keeps the tables so.
use Rattle.std.proofs.Common.{◌≡◌, ℕ, ◌+◌, ◌<◌, ◌^◌, List, [], ◌∷◌, length, Option, Result, Ok, Err, refl, arith}
use Rattle.std.specs.Prelude.{IfSome, IfOk, is_none}
use Rattle.star_values.specs.declared.refusal.Refusal.{Refusal}
use Rattle.star_values.specs.declared.refusal.Refusal.TheVariants as refusal
use Rattle.script_reader.specs.declared.statement.Statement.{Statement}
use Rattle.script_reader.specs.declared.statement.Block.{Block}
use Rattle.star_parser.specs.Printed.{IsNonempty, IsShaped}
use Rattle.star_parser.specs.Statement as written
use Rattle.star_parser.specs.declared.ast.AstItem.{AstItem}
use Rattle.star_plan.specs.Over.{IsOver}
use Rattle.star_plan.specs.Test.{Query, Test}
use Rattle.star_plan.specs.declared.table_def.TableDef.{TableDef}
use Rattle.star_plan.specs.Declaration.{declared_dimension, declared_fact}
use Rattle.star_binder.specs.Named.{where_conjuncts}
use Rattle.star_binder.specs.Refused.{bound_delete, bound_select}
use Rattle.star_binder.specs.Select.{select_of}
use Rattle.star_binder.specs.Table.{declared_table}
use Rattle.query_meaning.specs.Alone.{kept}
use Rattle.query_meaning.specs.History.{Change, DimensionDeclared, FactDeclared}
use Rattle.query_meaning.specs.Store.{Store}
use Rattle.star_store.specs.Deletes.{delete_change}
use Rattle.star_store.specs.Loads.{load_change}
use Rattle.reply_text.specs.Formed.{IsRefusal, IsTableName, IsWellFormed}
use Rattle.star_store.specs.Effect.{reply_to}
use Rattle.star_store.specs.Outcome.{Outcome, block_bytes, committed, declared, deleted, meaning_outcome, outcome_by, outcome_of, refused, selected}
use Rattle.star_store.specs.Text.{meaning_of}
use Rattle.star_store.proofs.ValueLemmas.{either}
use Rattle.star_store.proofs.AnswerLemmas.{answer-formed}
use Rattle.star_store.proofs.StoreLemmas.{IsKept, IsSmall, kept-few, kept-values}
use Rattle.star_store.proofs.LineLemmas.{NamesTable, line-names, place-fits}
use Rattle.star_store.proofs.ReasonLemmas.{Below, HasReason, IsCommit, delete-commit, delete-reason, dimension-reason, fact-reason, load-commit, select-reason}

pub record IsFormed (store : Store) (outcome : Outcome) : Type 0 where
  pub reply : IsWellFormed (reply_to store outcome.told)
  pub change : IfSome outcome.change (IsSmall store)

refused-formed : (store : Store) (reason : Refusal) → IsRefusal reason → IsFormed store (refused reason)
refused-formed store reason h = record { reply = h; change = tt }

-- ---- outcomes

committed-formed : (store : Store) (result : Result Change Refusal) → store.commits + 1 < 2 ^ 64 → IsCommit store result → IsFormed store (committed store result)
committed-formed store (Ok change) few h = record { reply = (few, h.is.1); change = h.is.0 }
committed-formed store (Err reason) few h = refused-formed store reason h.is

declared-formed : (store : Store) (change : TableDef → Change) (name : List ℕ) (result : Result TableDef Refusal) → ((its : TableDef) → IsSmall store (change its))
    → IsTableName name → HasReason result → IsFormed store (declared change name result)
declared-formed store change name (Ok its) small named h = record { reply = named; change = small its }
declared-formed store change name (Err reason) small named h = refused-formed store reason h.reason

deleted-formed : (store : Store) (result : Result (Option Test) Refusal) → IsKept store → store.commits + 1 < 2 ^ 64 → HasReason result → IsFormed store (deleted store result)
deleted-formed store (Ok condition) kept few h = committed-formed store (delete_change store condition) few (delete-commit store condition kept)
deleted-formed store (Err reason) kept few h = refused-formed store reason h.reason

selected-formed : (store : Store) (result : Result Query Refusal) → IsKept store → store.commits + 1 < 2 ^ 64 → IfOk result (λ query. IsOver store.schema query)
    → HasReason result → IsFormed store (selected store result)
selected-formed store (Ok query) its few over h = record {
  reply = answer-formed query (kept store query store.commits) store.commits (omega (arith, few)) over.some_item
      (let short = kept-few store query store.commits its in omega (arith, short)) (kept-values store query store.commits its);
  change = tt;
}
selected-formed store (Err reason) its few over h = refused-formed store reason h.reason

meaning-formed : Below → (store : Store) (block : Block) (meaning : written.Statement) → IsKept store → store.commits + 1 < 2 ^ 64 → NamesTable meaning → IsShaped meaning
    → IsFormed store (meaning_outcome store block meaning)
meaning-formed below store block (written.Dimension name columns) h few named shape =
    let its = declared_table store.schema (written.Dimension name columns) in
    declared-formed store DimensionDeclared name (declared_dimension store.schema its) (λ t. tt) named (dimension-reason store.schema its)
meaning-formed below store block (written.Fact name columns) h few named shape =
    let its = declared_table store.schema (written.Fact name columns) in
    declared-formed store FactDeclared name (declared_fact store.schema its) (λ t. tt) named (fact-reason store.schema its)
meaning-formed below store block (written.Load name header) h few named shape =
    committed-formed store (load_change store name header (block_bytes block)) few (load-commit below store name header (block_bytes block))
meaning-formed below store block (written.Delete name condition) h few named shape =
    let bound = bound_delete store.schema name (where_conjuncts condition) in
    either (IsFormed store) (is_none store.schema.fact) (refused refusal.OutOfOrder) (deleted store bound) (refused-formed store refusal.OutOfOrder tt)
    (deleted-formed store bound h few (delete-reason store.schema name (where_conjuncts condition)))
meaning-formed below store block (written.Select items names condition groups) h few named shape =
    let select = select_of items names condition groups in
    either (IsFormed store) (is_none store.schema.fact) (refused refusal.OutOfOrder) (selected store (bound_select store.schema select)) (refused-formed store refusal.OutOfOrder tt)
    (selected-formed store (bound_select store.schema select) h few (below.over store.schema select (some items shape.0)) (select-reason store.schema select))
  where
    some : (items : List AstItem) → IsNonempty items → 0 < length items
    some [] k = absurd k
    some (item ∷ items) k = omega arith
meaning-formed below store block written.Wait h few named shape = record { reply = tt; change = tt }

reason-fits : Below → (statement : Statement) (reason : Refusal) → meaning_of statement ≡ Err reason → IsRefusal reason
reason-fits below statement (refusal.Syntax place) e = let said = below.syntax statement place e in place-fits statement place said.0.1 said.1
reason-fits below statement other e = tt

by-meaning : Below → (store : Store) (statement : Statement) (result : Result written.Statement Refusal) → IsKept store → store.commits + 1 < 2 ^ 64
    → meaning_of statement ≡ result → IsFormed store (outcome_by store statement.block result)
by-meaning below store statement (Ok meaning) h few e =
    let said = (below.passed statement meaning).0 e in
    meaning-formed below store statement.block meaning h few (line-names statement.line meaning said.0.1 said.1.0) (below.shaped statement.line meaning said.1.0)
by-meaning below store statement (Err reason) h few e = refused-formed store reason (reason-fits below statement reason e)

-- the outcome of a statement
pub outcome-formed : Below → (store : Store) (statement : Statement) → IsKept store → store.commits + 1 < 2 ^ 64 → IsFormed store (outcome_of store statement)
unfolding outcome_of
outcome-formed below store statement h few = by-meaning below store statement (meaning_of statement) h few refl
