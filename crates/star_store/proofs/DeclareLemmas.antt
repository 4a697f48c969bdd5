-- Declarations: what a well-formed one declares, and one that is refused.
use Rattle.std.proofs.Common.{◌≡◌, ℕ, List, [], ◌∷◌, true, map, Some, None, Result, Ok, Err, refl, ap, sym}
use Rattle.std.specs.Prelude.{All, IsOkAnd}
use Rattle.std.proofs.lemmas.List.Elements.{All-cons, All-nil}
use Rattle.star_values.specs.declared.no_memory.NoMemory.{NoMemory}
use Rattle.star_values.specs.declared.refusal.Refusal.{Refusal}
use Rattle.star_parser.specs.declared.ast.AstColumn.{AstColumn}
use Rattle.star_parser.specs.Printed.{HaveNoTargets, IsShaped}
use Rattle.star_parser.specs.Statement as written
use Rattle.star_plan.specs.declared.column_def.ColumnDef.{ColumnDef}
use Rattle.star_plan.specs.declared.schema.Schema.{Schema}
use Rattle.star_plan.specs.declared.table_def.TableDef.{TableDef}
use Rattle.star_plan.specs.Schemas.{ReferencesNothing}
use Rattle.star_binder.specs.Table.{declared_table, defined_column}
use Rattle.query_meaning.specs.History.{Change, after_change}
use Rattle.query_meaning.specs.Keyed.{KeyedStore, plain}
use Rattle.reply_text.specs.declared.reply.Reply.TheVariants as reply
use Rattle.star_store.specs.Applied.{Follows}
use Rattle.star_store.specs.Kinds.{kind_of_change}
use Rattle.star_store.specs.Outcome.{declared}
use Rattle.star_store.specs.Text.{is_dimension}
use Rattle.star_store.specs.declared.applied.Applied.TheVariants.{Replied, Changed}
use Rattle.star_store.specs.declared.applied.ChangeKind.{ChangeKind}

-- the columns of a dimension as they are declared reference nothing
pub no_targets : (s : Schema) (columns : List AstColumn) → HaveNoTargets columns → All (λ (column : ColumnDef). column.target ≡ None) (map (defined_column s) columns)
no_targets s [] plain = All-nil (λ (column : ColumnDef). column.target ≡ None)
no_targets s (column ∷ columns) plain =
    All-cons (λ (column : ColumnDef). column.target ≡ None) (defined_column s column) (map (defined_column s) columns)
    (rw plain.0 refl) (no_targets s columns plain.1)

pub references_nothing_in : (s : Schema) (meaning : written.Statement) (table : TableDef) → table ≡ declared_table s meaning → is_dimension meaning ≡ true
    → IsShaped meaning → ReferencesNothing table
references_nothing_in s (written.Dimension name columns) table e is shaped = rw e (no_targets s columns shaped.1)
references_nothing_in s other table e is shaped = cc

-- a refused declaration changes nothing, and is told so
pub follows_refused : (change : TableDef → Change) (name : List ℕ) (old new : KeyedStore) (found : Result TableDef Refusal) (reason : Refusal)
    → found ≡ Err reason → new ≡ old → Follows {E = NoMemory} old new (Ok (Replied (reply.Refused reason))) (declared change name found)
follows_refused change name old new found reason e same = rw e (refl, refl, ap plain same, tt)

-- a declaration that nothing refuses makes its change, and tells of which kind that is
pub follows_declared : (kind : ChangeKind) (change : TableDef → Change) (name : List ℕ) (old new : KeyedStore) (found : Result TableDef Refusal)
    → ((table : TableDef) → kind_of_change (change table) ≡ kind) → IsOkAnd found (λ table. plain new ≡ after_change (plain old) (change table))
    → Follows {E = NoMemory} old new (Ok (Changed kind (reply.Table name))) (declared change name found)
follows_declared kind change name old new (Ok table) is tables = (refl, ap Some (sym (is table)), tables, tt)
follows_declared kind change name old new (Err reason) is tables = absurd tables
