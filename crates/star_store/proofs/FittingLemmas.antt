-- What each outcome of a statement is: a reply alone, a query over the schema, or a change that the tables take.
use Rattle.std.proofs.Common.{◌<◌, ◌∙◌, ◌∷◌, ◌≡◌, [], ap, arith, Bool, cond, Err, false, length, List, map, None, Ok, Option, refl, Result, Some, subst, sym, true, ℕ, ◌↔◌}
use Rattle.std.specs.List.{list_any}
use Rattle.std.specs.Prelude.{IfOk, is_none, is_some, IsSome, nat_le, nat_lt, ◌||◌}
use Rattle.star_values.specs.declared.refusal.Refusal.{Refusal}
use Rattle.star_values.specs.declared.refusal.Refusal.TheVariants.{Limit, OutOfOrder, UnknownName, DuplicateName, TypeMismatch}
use Rattle.script_reader.specs.declared.statement.Block.{Block}
use Rattle.script_reader.specs.declared.statement.Statement.{Statement}
use Rattle.star_parser.specs.declared.ast.AstColumn.{AstColumn}
use Rattle.star_parser.specs.Printed.{HaveNoTargets, IsNonempty, IsShaped}
use Rattle.star_parser.specs.Sentence.{IsSentence}
use Rattle.star_parser.specs.Statement as written
use Rattle.star_plan.specs.Over.{IsOver}
use Rattle.star_plan.specs.Test.{Query, Test}
use Rattle.star_plan.specs.declared.schema.Schema.{Schema}
use Rattle.star_plan.specs.declared.table_def.TableDef.{TableDef}
use Rattle.star_plan.specs.Declaration.{declared_dimension, declared_fact, references_another_kind, references_nothing, references_twice, takes_a_name_twice}
use Rattle.star_values.specs.declared.column_lists.TheConstants.{MAX_COLUMNS}
use Rattle.star_plan.specs.declared.TheConstants.{MAX_DIMENSIONS}
use Rattle.star_binder.specs.Named.{where_conjuncts}
use Rattle.star_binder.specs.Refused.{bound_delete, bound_select}
use Rattle.star_binder.specs.Select.{select_of, SelectParts}
use Rattle.star_binder.specs.Table.{declared_table, defined_column}
use Rattle.query_meaning.specs.Accepted.{Accepts}
use Rattle.query_meaning.specs.History.{Change, DimensionDeclared, FactDeclared}
use Rattle.query_meaning.specs.Settled.{IsSettled}
use Rattle.query_meaning.specs.Store.{Store}
use Rattle.star_store.specs.Deletes.{delete_change}
use Rattle.star_store.specs.Loads.{load_change}
use Rattle.star_store.specs.Outcome.{block_bytes, committed, declared, deleted, meaning_outcome, Outcome, outcome_by, refused, selected, outcome_of}
use Rattle.star_store.specs.Text.{meaning_of, IsWhole, IsWithin}
use Rattle.star_store.specs.Fitting.{FitsTables}
use Rattle.star_store.proofs.DeclareLemmas.{no_targets}

-- what the lower laws say of the statements that are read
pub record Readings : Type 0 where
  pub passed : (statement : Statement) (meaning : written.Statement)
      → (meaning_of statement ≡ Ok meaning) ↔ (IsWithin statement.line × IsWhole statement meaning)
  pub shaped : (line : List ℕ) (meaning : written.Statement) → IsSentence line meaning → IsShaped meaning
  pub over : (schema : Schema) (select : SelectParts) → 0 < length select.items
      → IfOk (bound_select schema select) (λ query. IsOver schema query)
  pub load : (store : Store) (name : List ℕ) (header : Bool) (block : List ℕ) (change : Change) → IsSettled store
      → load_change store name header block ≡ Ok change → Accepts store change
  pub delete : (store : Store) (condition : Option Test) (change : Change) → delete_change store condition ≡ Ok change
      → Accepts store change

abbrev Fits : Store → Outcome → Type 0
Fits store found = FitsTables store found.change found.told

-- what passed all tests is what was tested
same-passed : {A E : Type 0} (first second third : Bool) (one two three : E) (x y : A)
    → cond {A = Result A E} first (Err one) (cond {A = Result A E} second (Err two) (cond {A = Result A E} third (Err three) (Ok x))) ≡ Ok y → y ≡ x
same-passed true second third one two three x y e = cc
same-passed false true third one two three x y e = cc
same-passed false false true one two three x y e = cc
same-passed false false false one two three x y e = cc

-- behind two tests more
behind-two : {A E : Type 0} (first second : Bool) (one two : E) (rest : Result A E) (y : A)
    → cond {A = Result A E} first (Err one) (cond {A = Result A E} second (Err two) rest) ≡ Ok y → rest ≡ Ok y
behind-two true second one two rest y e = cc
behind-two false true one two rest y e = cc
behind-two false false one two rest y e = e

same-dimension : (schema : Schema) (table other : TableDef) → declared_dimension schema table ≡ Ok other → other ≡ table
same-dimension schema table other e =
    same-passed (is_some schema.fact) (takes_a_name_twice schema table)
    (nat_le MAX_DIMENSIONS (length schema.dimensions) || nat_lt MAX_COLUMNS (length table.columns)) OutOfOrder DuplicateName Limit table other e

same-fact : (schema : Schema) (table other : TableDef) → declared_fact schema table ≡ Ok other → other ≡ table
same-fact schema table other e =
    same-passed (list_any (references_nothing schema) table.columns) (nat_lt MAX_COLUMNS (length table.columns))
    (list_any (references_another_kind schema) table.columns) UnknownName Limit TypeMismatch table other
    (behind-two (is_some schema.fact) (takes_a_name_twice schema table || references_twice schema table.columns) OutOfOrder DuplicateName
    (cond {A = Result TableDef Refusal} (list_any (references_nothing schema) table.columns) (Err UnknownName)
    (cond {A = Result TableDef Refusal} (nat_lt MAX_COLUMNS (length table.columns)) (Err Limit)
    (cond {A = Result TableDef Refusal} (list_any (references_another_kind schema) table.columns) (Err TypeMismatch) (Ok table)))) other e)

some-column : (schema : Schema) (columns : List AstColumn) → IsNonempty columns → 0 < length (map (defined_column schema) columns)
some-column schema [] some = absurd some
some-column schema (column ∷ columns) some = omega arith

some-member : {A : Type 0} (members : List A) → IsNonempty members → 0 < length members
some-member [] some = absurd some
some-member (member ∷ members) some = omega arith

dimension-fits : (store : Store) (name : List ℕ) (columns : List AstColumn) → IsNonempty columns × HaveNoTargets columns
    → (found : Result TableDef Refusal)
    → declared_dimension store.schema (declared_table store.schema (written.Dimension name columns)) ≡ found
    → Fits store (declared DimensionDeclared name found)
dimension-fits store name columns shaped (Err reason) is = tt
dimension-fits store name columns shaped (Ok table) is =
    let declares = declared_table store.schema (written.Dimension name columns) in
    let same : table ≡ declares = same-dimension store.schema declares table is in
    subst (λ t. Accepts store (DimensionDeclared t)) (sym same)
    (is ∙ ap (λ (t : TableDef). Ok t) same, some-column store.schema columns shaped.0, no_targets store.schema columns shaped.1)

fact-fits : (store : Store) (name : List ℕ) (columns : List AstColumn) → IsNonempty columns → (found : Result TableDef Refusal)
    → declared_fact store.schema (declared_table store.schema (written.Fact name columns)) ≡ found
    → Fits store (declared FactDeclared name found)
fact-fits store name columns shaped (Err reason) is = tt
fact-fits store name columns shaped (Ok table) is =
    let declares = declared_table store.schema (written.Fact name columns) in
    let same : table ≡ declares = same-fact store.schema declares table is in
    subst (λ t. Accepts store (FactDeclared t)) (sym same)
    (is ∙ ap (λ (t : TableDef). Ok t) same, some-column store.schema columns shaped)

committed-fits : (store : Store) (found : Result Change Refusal) → ((change : Change) → found ≡ Ok change → Accepts store change)
    → Fits store (committed store found)
committed-fits store (Ok change) accepts = accepts change refl
committed-fits store (Err reason) accepts = tt

deleted-fits : Readings → (store : Store) (condition : Result (Option Test) Refusal) → Fits store (deleted store condition)
deleted-fits says store (Ok condition) = committed-fits store (delete_change store condition) (says.delete store condition)
deleted-fits says store (Err reason) = tt

selected-fits : (store : Store) (found : Result Query Refusal) → IsSome store.schema.fact → IfOk found (λ query. IsOver store.schema query)
    → Fits store (selected store found)
selected-fits store (Ok query) there over = (refl, over, there)
selected-fits store (Err reason) there over = tt

-- what is looked at once the fact table is declared
behind-fact : (store : Store) (fact : Option TableDef) (found : Outcome) → (IsSome fact → Fits store found)
    → Fits store (cond {A = Outcome} (is_none fact) (refused OutOfOrder) found)
behind-fact store None found fits = tt
behind-fact store (Some table) found fits = fits refl

meaning-fits : Readings → (store : Store) → IsSettled store → (block : Block) (meaning : written.Statement) → IsShaped meaning
    → Fits store (meaning_outcome store block meaning)
meaning-fits says store settled block (written.Dimension name columns) shaped = dimension-fits store name columns shaped _ refl
meaning-fits says store settled block (written.Fact name columns) shaped = fact-fits store name columns shaped _ refl
meaning-fits says store settled block (written.Load name header) shaped =
    committed-fits store (load_change store name header (block_bytes block))
    (λ change. says.load store name header (block_bytes block) change settled)
meaning-fits says store settled block (written.Delete name condition) shaped =
    behind-fact store store.schema.fact (deleted store (bound_delete store.schema name (where_conjuncts condition)))
    (λ there. deleted-fits says store (bound_delete store.schema name (where_conjuncts condition)))
meaning-fits says store settled block (written.Select items names condition groups) shaped =
    behind-fact store store.schema.fact (selected store (bound_select store.schema (select_of items names condition groups)))
    (λ there. selected-fits store (bound_select store.schema (select_of items names condition groups)) there
    (says.over store.schema (select_of items names condition groups) (some-member items shaped.0)))
meaning-fits says store settled block written.Wait shaped = tt

-- so it is with each outcome
pub outcome-follows : Readings → (store : Store) → IsSettled store → (statement : Statement)
    → FitsTables store (outcome_of store statement).change (outcome_of store statement).told
unfolding outcome_of
outcome-follows says store settled statement = by_meaning (meaning_of statement) refl
  where
    by_meaning : (meaning : Result written.Statement Refusal) → meaning_of statement ≡ meaning → Fits store (outcome_by store statement.block meaning)
    by_meaning (Ok meaning) is =
        meaning-fits says store settled statement.block meaning
        (says.shaped statement.line meaning ((says.passed statement meaning).0 is).1.0)
    by_meaning (Err reason) is = tt
