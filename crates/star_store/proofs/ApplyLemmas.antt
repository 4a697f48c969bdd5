-- Loads and deletes follow their outcomes, and which outcome a delete has once its condition is bound.
use Rattle.std.proofs.Common.{◌≡◌, Bool, true, false, Option, Some, None, option_map, Result, Ok, Err, refl, sym, ap, subst, ◌∙◌, Bor}
use Rattle.std.specs.Option.{option_copied}
use Rattle.std.specs.Prelude.{IfOk, is_none, is_some, if◌then◌else◌}
use Rattle.star_values.specs.declared.no_memory.NoMemory.{NoMemory}
use Rattle.star_values.specs.declared.refusal.Refusal.{Refusal}
use Rattle.star_values.specs.declared.refusal.Refusal.TheVariants.{OutOfOrder}
use Rattle.script_reader.specs.declared.statement.Block.{Block}
use Rattle.star_parser.specs.Statement as written
use Rattle.star_plan.specs.Test.{Test, test_of}
use Rattle.star_plan.specs.declared.predicate.Predicate.{Predicate}
use Rattle.star_binder.specs.Fault.{BindsDelete, is_delete}
use Rattle.star_binder.specs.Named.{where_conjuncts}
use Rattle.star_binder.specs.Refused.{bound_delete}
use Rattle.query_meaning.specs.History.{Change, Ended}
use Rattle.query_meaning.specs.Keyed.{KeyedStore, plain}
use Rattle.query_meaning.specs.Store.{Store}
use Rattle.star_store.specs.Deletes.{delete_change, positions_of}
use Rattle.star_store.specs.Done.{Commits}
use Rattle.star_store.specs.declared.done.Done.{Done}
use Rattle.star_values.specs.declared.statement_fault.StatementFault.{StatementFault}
use Rattle.star_values.specs.declared.statement_fault.StatementFault.TheVariants.{Refused, Memory}
use Rattle.reply_text.specs.declared.reply.Reply.{Reply}
use Rattle.reply_text.specs.declared.reply.Reply.TheVariants as reply
use Rattle.star_store.specs.Applied.{Follows, IsAsked, TellsDone, kind_by, told_by}
use Rattle.star_store.specs.Kinds.{kind_of_change}
use Rattle.star_store.specs.Outcome as outcome
use Rattle.star_store.specs.Outcome.{committed, deleted, meaning_outcome, refused}
use Rattle.star_store.specs.declared.applied.Applied.{Applied}
use Rattle.star_store.specs.declared.applied.Applied.TheVariants.{Replied, Changed}
use Rattle.star_store.specs.declared.applied.ChangeKind.{ChangeKind}
use Rattle.star_store.specs.declared.applied.ChangeKind.TheVariants.{Ends}

-- a change is of this kind, where nothing refuses it
abbrev pub IsOfKind : ChangeKind → Result Change Refusal → Type 0
IsOfKind kind found = IfOk found (λ change. kind_of_change change ≡ kind)

-- a reply asks no query
asks_none : (old new : KeyedStore) (applied : Applied) (answer : Reply) → applied ≡ Replied answer → IsAsked old new applied
asks_none old new applied answer e = subst (λ (a : Applied). IsAsked old new a) (sym e) tt

changed_asks_none : (old new : KeyedStore) (applied : Applied) (kind : ChangeKind) (answer : Reply) → applied ≡ Changed kind answer → IsAsked old new applied
changed_asks_none old new applied kind answer e = subst (λ (a : Applied). IsAsked old new a) (sym e) tt

pub follows_committed : (kind : ChangeKind) (old new : KeyedStore) (found : Result Change Refusal) (done : Result Done StatementFault) (result : Result Applied NoMemory)
    → IsOfKind kind found → Commits found old new done → TellsDone kind done result → Follows old new result (committed (plain old) found)
follows_committed kind old new (Ok change) (Ok done) (Ok applied) is commits told = (
  ap told_by told ∙ ap (λ (d : Done). outcome.Replied (reply.Commit d.commit d.rows)) commits.1,
  ap kind_by told ∙ ap Some (sym is),
  commits.0,
  changed_asks_none old new applied kind (reply.Commit done.commit done.rows) told,
)
follows_committed kind old new (Err reason) (Ok done) (Ok applied) is commits told = absurd commits
follows_committed kind old new found (Ok done) (Err none) is commits told = absurd told
follows_committed kind old new found (Err (Refused reason)) (Ok applied) is commits told =
    rw commits.0 (ap told_by told, ap kind_by told, ap plain commits.1, asks_none old new applied (reply.Refused reason) told)
follows_committed kind old new found (Err (Refused reason)) (Err none) is commits told = absurd told
follows_committed kind old new found (Err Memory) (Ok applied) is commits told = absurd told
follows_committed kind old new found (Err Memory) (Err none) is commits told = commits

-- a load or delete that is refused changes nothing, and is told so
pub follows_reason : (old new : KeyedStore) (found : Result Change Refusal) (reason : Refusal) → found ≡ Err reason → new ≡ old
    → Follows {E = NoMemory} old new (Ok (Replied (reply.Refused reason))) (committed (plain old) found)
follows_reason old new found reason e same = rw e (refl, refl, ap plain same, tt)

is_there : {A : Type 0} (o : Option A) → is_some o ≡ true → is_none o ≡ false
is_there None e = cc
is_there (Some x) e = refl

-- a delete is of the kind that ends versions
pub delete_kind : (store : Store) (condition : Option Test) → IsOfKind Ends (delete_change store condition)
delete_kind store condition = by_test (is_none store.schema.fact)
  where
    by_test : (none : Bool) → IsOfKind Ends (if none then Err OutOfOrder else Ok (Ended (positions_of condition store.versions)))
    by_test true = tt
    by_test false = refl

-- the outcome of a delete whose condition was bound
pub delete_bound : (store : Store) (block : Block) (meaning : written.Statement) (condition : Option Predicate) → is_delete meaning ≡ true
    → is_some store.schema.fact ≡ true → BindsDelete (Ok condition) store.schema meaning
    → meaning_outcome store block meaning ≡ committed store (delete_change store (option_map test_of condition))
delete_bound store block (written.Delete name tested) condition is there binds =
    ap (λ none. if none then refused OutOfOrder else deleted store (bound_delete store.schema name (where_conjuncts tested))) (is_there store.schema.fact there)
    ∙ ap (deleted store) binds
delete_bound store block other condition is there binds = cc

-- the test of a condition that is lent is that of the condition
pub tests_lent : (condition : Option (Bor Predicate)) → option_map (λ p. test_of p.now) condition ≡ option_map test_of (option_copied condition)
tests_lent None = refl
tests_lent (Some p) = refl
