-- Every effect agrees with the tables that it leaves; the replies by tables are those by histories; and what becomes of a
-- select.
use Rattle.std.proofs.Common.{◌≡◌, ℕ, suc, ◌+◌, Bool, true, false, List, [], ◌∷◌, ◌++◌, length, Option, Some, None, Result, Ok, Err, refl, ap, ◌∙◌, append-nil}
use Rattle.std.specs.Prelude.{is_none, nat_lt, option_to_list, if◌then◌else◌, ⊤}
use Rattle.std.specs.List.{list_any}
use Rattle.std.specs.Option.{option_map_or}
use Rattle.std.proofs.lemmas.Grind.{fold-append}
use Rattle.star_values.specs.declared.refusal.Refusal.{Refusal}
use Rattle.star_values.specs.declared.refusal.Refusal.TheVariants.{OutOfOrder, UnknownName, Limit, BadRecord, DuplicateKey, DanglingReference}
use Rattle.star_values.specs.declared.value.Value as cell
use Rattle.script_reader.specs.declared.statement.Statement.{Statement}
use Rattle.script_reader.specs.declared.statement.Block.{Block}
use Rattle.star_parser.specs.Condition.{Condition}
use Rattle.star_parser.specs.Statement as written
use Rattle.star_parser.specs.declared.ast.AstItem.{AstItem}
use Rattle.star_parser.specs.declared.tree.Column.{Column}
use Rattle.star_plan.specs.Test.{Query, Test}
use Rattle.star_plan.specs.declared.answer.Answer.{Answer}
use Rattle.star_plan.specs.declared.answer.Answer.TheVariants as answer
use Rattle.star_plan.specs.declared.table.Table.{Table}
use Rattle.star_plan.specs.declared.table.Table.TheVariants as table
use Rattle.star_plan.specs.Columns.{columns_of, kinds_of}
use Rattle.star_plan.specs.declared.table_def.TableDef.{TableDef}
use Rattle.star_plan.specs.Declaration.{declared_dimension, declared_fact}
use Rattle.star_plan.specs.Named.{table_named}
use Rattle.csv_load.specs.Records.{records_in}
use Rattle.csv_load.specs.Rows.{typed_rows}
use Rattle.star_binder.specs.Named.{where_conjuncts}
use Rattle.star_binder.specs.Refused.{bound_delete, bound_select}
use Rattle.star_binder.specs.Select.{select_of}
use Rattle.star_binder.specs.Table.{declared_table}
use Rattle.query_meaning.specs.Alone.{alone}
use Rattle.query_meaning.specs.History.{Change, DimensionDeclared, FactDeclared, Loaded, Ended, after_change, store_of}
use Rattle.query_meaning.specs.Store.{Store, empty_store, rows_in}
use Rattle.star_store.specs.Deletes.{delete_change, positions_of}
use Rattle.star_store.specs.Loads.{count_in, dangles, load_change, loaded_records, loaded_rows, most_in, repeats_a_key}
use Rattle.reply_text.specs.declared.reply.Reply.{Reply}
use Rattle.reply_text.specs.declared.reply.Reply.TheVariants as reply
use Rattle.star_store.specs.Effect.{answer_reply, effect_by, effect_of, store_after, store_by}
use Rattle.star_store.specs.Laws.{AgreesWith}
use Rattle.star_store.specs.Outcome.{Outcome, block_bytes, committed, declared, deleted, meaning_outcome, outcome_by, outcome_of, refused, select_outcome, selected}
use Rattle.star_store.specs.Script.{history_after, is_wanted_at, replies_after, replies_at}
use Rattle.star_store.specs.Text.{meaning_of}
use Rattle.star_store.proofs.ValueLemmas.{either}

abbrev Agrees : Store → Outcome → Type 0
Agrees store outcome = AgreesWith store (store_by store outcome) (effect_by store outcome).reply

dimension_agrees : (store : Store) (name : List ℕ) (result : Result TableDef Refusal) → Agrees store (declared DimensionDeclared name result)
dimension_agrees store name (Ok table) = refl
dimension_agrees store name (Err reason) = refl

fact_agrees : (store : Store) (name : List ℕ) (result : Result TableDef Refusal) → Agrees store (declared FactDeclared name result)
fact_agrees store name (Ok table) = refl
fact_agrees store name (Err reason) = refl

-- a change that is a commit
abbrev IsNext : Result Change Refusal → Type 0
IsNext (Ok (DimensionDeclared table)) = ⊥
IsNext (Ok (FactDeclared table)) = ⊥
IsNext other = ⊤

committed_agrees : (store : Store) (found : Result Change Refusal) → IsNext found → Agrees store (committed store found)
committed_agrees store (Ok (DimensionDeclared table)) next = absurd next
committed_agrees store (Ok (FactDeclared table)) next = absurd next
committed_agrees store (Ok (Loaded table.Fact rows)) next = (refl, refl)
committed_agrees store (Ok (Loaded (table.Dimension dimension) rows)) next = (refl, refl)
committed_agrees store (Ok (Ended positions)) next = (refl, refl)
committed_agrees store (Err reason) next = refl

map_or_either : {A B : Type 0} (P : B → Type 0) (f : A → B) (o : Option A) (none : B)
    → ((x : A) → P (f x)) → P none → P (option_map_or f o none)
map_or_either P f None none some h = h
map_or_either P f (Some x) none some h = some x

rows_next : (store : Store) (into : Table) (rows : List (List cell.Value)) → IsNext (loaded_rows store into rows)
rows_next store table.Fact rows =
    either IsNext (list_any (dangles store.schema store.dimensions) rows) (Err DanglingReference) (Ok (Loaded table.Fact rows)) tt tt
rows_next store (table.Dimension dimension) rows =
    either IsNext (repeats_a_key (rows_in store.dimensions dimension) rows) (Err DuplicateKey) (Ok (Loaded (table.Dimension dimension) rows)) tt tt

records_next : (store : Store) (into : Table) (records : List (List (List ℕ))) → IsNext (loaded_records store into records)
records_next store into records =
    let rows = typed_rows (kinds_of (columns_of store.schema into)) records in
    either IsNext (nat_lt (most_in into) (count_in store into + length records)) (Err Limit)
    (option_map_or (loaded_rows store into) rows (Err BadRecord)) tt
    (map_or_either IsNext (loaded_rows store into) rows (Err BadRecord) (rows_next store into) tt)

load_next : (store : Store) (name : List ℕ) (header : Bool) (block : List ℕ) → IsNext (load_change store name header block)
unfolding load_change
load_next store name header block =
    let found = table_named store.schema name in
    let loads = λ (into : Table). loaded_records store into (records_in header block) in
    either IsNext (is_none store.schema.fact) (Err OutOfOrder) (option_map_or loads found (Err UnknownName)) tt
    (map_or_either IsNext loads found (Err UnknownName) (λ into. records_next store into (records_in header block)) tt)

delete_next : (store : Store) (condition : Option Test) → IsNext (delete_change store condition)
delete_next store condition =
    either IsNext (is_none store.schema.fact) (Err OutOfOrder) (Ok (Ended (positions_of condition store.versions))) tt tt

deleted_agrees : (store : Store) (condition : Result (Option Test) Refusal) → Agrees store (deleted store condition)
deleted_agrees store (Ok condition) = committed_agrees store (delete_change store condition) (delete_next store condition)
deleted_agrees store (Err reason) = refl

answer_agrees : (store : Store) (answer : Answer) → AgreesWith store store (answer_reply store.commits answer)
answer_agrees store (answer.Rows rows) = (refl, refl)
answer_agrees store answer.Overflow = (refl, refl)

selected_agrees : (store : Store) (query : Result Query Refusal) → Agrees store (selected store query)
selected_agrees store (Ok query) = answer_agrees store (alone store query store.commits)
selected_agrees store (Err reason) = refl

meaning_agrees : (store : Store) (block : Block) (meaning : written.Statement) → Agrees store (meaning_outcome store block meaning)
meaning_agrees store block (written.Dimension name columns) =
    dimension_agrees store name (declared_dimension store.schema (declared_table store.schema (written.Dimension name columns)))
meaning_agrees store block (written.Fact name columns) =
    fact_agrees store name (declared_fact store.schema (declared_table store.schema (written.Fact name columns)))
meaning_agrees store block (written.Load name header) =
    committed_agrees store (load_change store name header (block_bytes block)) (load_next store name header (block_bytes block))
meaning_agrees store block (written.Delete name condition) =
    either (Agrees store) (is_none store.schema.fact) (refused OutOfOrder) (deleted store (bound_delete store.schema name (where_conjuncts condition)))
    refl (deleted_agrees store (bound_delete store.schema name (where_conjuncts condition)))
meaning_agrees store block (written.Select items names condition groups) =
    either (Agrees store) (is_none store.schema.fact) (refused OutOfOrder) (selected store (bound_select store.schema (select_of items names condition groups)))
    refl (selected_agrees store (bound_select store.schema (select_of items names condition groups)))
meaning_agrees store block written.Wait = refl

by_agrees : (store : Store) (block : Block) (meaning : Result written.Statement Refusal) → Agrees store (outcome_by store block meaning)
by_agrees store block (Ok meaning) = meaning_agrees store block meaning
by_agrees store block (Err reason) = refl

pub effect_agrees : (store : Store) (statement : Statement) → AgreesWith store (store_after store statement) (effect_of store statement).reply
unfolding outcome_of
effect_agrees store statement = by_agrees store statement.block (meaning_of statement)

-- The replies by tables.

-- a history with a change more, or none, has the tables after it
pub grown : (history : List Change) (change : Option Change) → store_of (history ++ option_to_list change) ≡ option_map_or (after_change (store_of history)) change (store_of history)
grown history None = ap store_of (append-nil history)
grown history (Some change) = fold-append after_change empty_store history (change ∷ [])

pub by_tables : (wanted : List ℕ) (place : ℕ) (history : List Change) (statements : List Statement)
    → replies_after wanted place history statements ≡ replies_at wanted place (store_of history) statements
by_tables wanted place history [] = refl
by_tables wanted place history (statement ∷ statements) =
    by_place (is_wanted_at wanted place) (effect_of (store_of history) statement).reply (by_tables wanted (suc place) history statements)
    (by_tables wanted (suc place) (history_after history statement) statements
    ∙ ap (λ store. replies_at wanted (suc place) store statements) (grown history (outcome_of (store_of history) statement).change))
  where
    by_place : (test : Bool) (first : Reply) {left left' right right' : List Reply} → left ≡ left' → right ≡ right'
        → (if test then reply.Memory ∷ left else (first ∷ right)) ≡ (if test then reply.Memory ∷ left' else (first ∷ right'))
    by_place true first e f = ap (λ replies. reply.Memory ∷ replies) e
    by_place false first e f = ap (λ replies. first ∷ replies) f

-- What becomes of a select.

-- by whether there is a fact table and by what it is bound to
select_by : (store : Store) (statement : Statement) (items : List AstItem) (names : List (List ℕ)) (condition : Option Condition) (groups : List Column)
    → meaning_of statement ≡ Ok (written.Select items names condition groups)
    → outcome_of store statement ≡ select_outcome store (select_of items names condition groups)
unfolding outcome_of
select_by store statement items names condition groups e = ap (outcome_by store statement.block) e

pub select_early : (store : Store) (statement : Statement) (items : List AstItem) (names : List (List ℕ)) (condition : Option Condition) (groups : List Column)
    → meaning_of statement ≡ Ok (written.Select items names condition groups) → store.schema.fact ≡ None → outcome_of store statement ≡ refused OutOfOrder
select_early store statement items names condition groups e none =
    select_by store statement items names condition groups e
    ∙ ap (λ (fact : Option TableDef). if is_none fact then refused OutOfOrder else selected store (bound_select store.schema (select_of items names condition groups))) none

-- the outcome of a select that is bound so, behind the declaration of the fact table
pub select_bound : (store : Store) (fact : TableDef) (statement : Statement) (items : List AstItem) (names : List (List ℕ)) (condition : Option Condition) (groups : List Column)
    → (found : Result Query Refusal) → meaning_of statement ≡ Ok (written.Select items names condition groups) → store.schema.fact ≡ Some fact
    → bound_select store.schema (select_of items names condition groups) ≡ found → outcome_of store statement ≡ selected store found
select_bound store fact statement items names condition groups found e there bound =
    select_by store statement items names condition groups e
    ∙ ap (λ (f : Option TableDef). if is_none f then refused OutOfOrder else selected store (bound_select store.schema (select_of items names condition groups))) there
    ∙ ap (selected store) bound
