-- A statement that asks a query makes no change.
use Rattle.script_run.proofs.Words.{◌++◌, ◌∙◌, ◌≡◌, ap, append-nil, Bool, Change, DimensionDeclared, Err, FactDeclared, false, history_after, if◌then◌else◌, List, meaning_of, None, Ok, Option, option_to_list, Outcome, outcome_by, Query, refl, Refusal, Result, Statement, Store, store_of, subst, Told, true, ℕ}
use Rattle.std.specs.Prelude.{is_none}
use Rattle.star_values.specs.declared.refusal.Refusal.TheVariants.{OutOfOrder}
use Rattle.script_reader.specs.declared.statement.Block.{Block}
use Rattle.star_parser.specs.Statement as written
use Rattle.star_plan.specs.Test.{Test}
use Rattle.star_plan.specs.declared.table_def.TableDef.{TableDef}
use Rattle.star_store.specs.Outcome.{Accepted, Replied}
use Rattle.star_store.specs.Outcome.{committed, declared, deleted, meaning_outcome, outcome_of, refused, selected}

-- where a query is asked there is no change
abbrev pub QuietBy : Told → Option Change → Type 0
QuietBy (Replied reply) change = Unit {0}
QuietBy (Accepted query snapshot) change = change ≡ None

abbrev IsQuiet : Outcome → Type 0
IsQuiet outcome = QuietBy outcome.told outcome.change

quiet-declared : (change : TableDef → Change) (name : List ℕ) (result : Result TableDef Refusal) → IsQuiet (declared change name result)
quiet-declared change name (Ok table) = tt
quiet-declared change name (Err reason) = tt

quiet-committed : (store : Store) (found : Result Change Refusal) → IsQuiet (committed store found)
quiet-committed store (Ok change) = tt
quiet-committed store (Err reason) = tt

quiet-deleted : (test : Bool) (store : Store) (condition : Result (Option Test) Refusal)
    → IsQuiet (if test then refused OutOfOrder else deleted store condition)
quiet-deleted true store condition = tt
quiet-deleted false store (Ok condition) = quiet-committed store _
quiet-deleted false store (Err reason) = tt

quiet-selected : (test : Bool) (store : Store) (query : Result Query Refusal)
    → IsQuiet (if test then refused OutOfOrder else selected store query)
quiet-selected true store query = tt
quiet-selected false store (Ok query) = refl
quiet-selected false store (Err reason) = tt

quiet-meaning : (store : Store) (block : Block) (meaning : written.Statement) → IsQuiet (meaning_outcome store block meaning)
quiet-meaning store block (written.Dimension name columns) = quiet-declared DimensionDeclared name _
quiet-meaning store block (written.Fact name columns) = quiet-declared FactDeclared name _
quiet-meaning store block (written.Load name header) = quiet-committed store _
quiet-meaning store block (written.Delete name condition) = quiet-deleted (is_none store.schema.fact) store _
quiet-meaning store block (written.Select items names condition groups) = quiet-selected (is_none store.schema.fact) store _
quiet-meaning store block written.Wait = tt

quiet-by : (store : Store) (block : Block) (meaning : Result written.Statement Refusal) → IsQuiet (outcome_by store block meaning)
quiet-by store block (Ok meaning) = quiet-meaning store block meaning
quiet-by store block (Err reason) = tt

-- so it is with every statement
pub quiet-told : (store : Store) (statement : Statement) → QuietBy (outcome_of store statement).told (outcome_of store statement).change
unfolding outcome_of
quiet-told store statement = quiet-by store statement.block (meaning_of statement)

-- a query leaves the history
pub history-asked : (history : List Change) (statement : Statement) (query : Query) (snapshot : ℕ)
    → (outcome_of (store_of history) statement).told ≡ Accepted query snapshot → history_after history statement ≡ history
history-asked history statement query snapshot asks =
    let none : (outcome_of (store_of history) statement).change ≡ None =
    subst (λ told. QuietBy told (outcome_of (store_of history) statement).change) asks (quiet-told (store_of history) statement) in
    ap (λ change. history ++ option_to_list change) none ∙ append-nil history
