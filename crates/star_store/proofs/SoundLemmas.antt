-- Each call leaves the tables of an accepted history, with their key numbers.
use Rattle.std.proofs.Common.{◌≡◌, ℕ, ◌<◌, Bool, true, false, cond, ◌||◌, nat_le, nat_lt, List, [], ◌∷◌, ◌++◌, length, map, Option, Some, None, is_some, Result, Ok, Err, refl, ap, sym, subst, ◌∙◌}
use Rattle.std.specs.Prelude.{IfErr, IfSome, IsOkAnd, IsTrue, OnErr, OnOk}
use Rattle.std.specs.List.{All, list_any}
use Rattle.std.proofs.lemmas.List.Elements.{All-cons, All-head, All-nil, All-tail}
use Rattle.star_values.specs.declared.refusal.Refusal.{Refusal}
use Rattle.star_values.specs.declared.refusal.Refusal.TheVariants.{OutOfOrder, DuplicateName, UnknownName, Limit, TypeMismatch}
use Rattle.star_values.specs.Roomy.{Roomy}
use Rattle.star_plan.specs.declared.schema.Schema.{Schema}
use Rattle.star_plan.specs.declared.table_def.TableDef.{TableDef}
use Rattle.star_plan.specs.Fits.{fits_table}
use Rattle.star_plan.specs.Declaration.{declared_dimension, declared_fact, references_another_kind, references_nothing, references_twice, takes_a_name_twice}
use Rattle.star_plan.specs.Limits.{with_dimension, with_fact}
use Rattle.star_plan.specs.Schemas.{ReferencesNothing}
use Rattle.star_values.specs.declared.column_lists.TheConstants.{MAX_COLUMNS}
use Rattle.star_plan.specs.declared.TheConstants.{MAX_DIMENSIONS}
use Rattle.fact_versions.specs.declared.version.Version.{Version}
use Rattle.dimension_rows.specs.declared.dimension_row.DimensionRow.{DimensionRow}
use Rattle.query_meaning.specs.Accepted.{Accepts}
use Rattle.query_meaning.specs.History.{Change, DimensionDeclared, FactDeclared, after_change}
use Rattle.query_meaning.specs.Keyed.{HasKeyNumbers, KeyedStore, plain, plain_version}
use Rattle.query_meaning.specs.Settled.{IsSettled}
use Rattle.query_meaning.specs.Store.{PlainVersion, Store}
use Rattle.star_store.specs.declared.done.Done.{Done}
use Rattle.star_values.specs.declared.statement_fault.StatementFault.{StatementFault}
use Rattle.star_values.specs.declared.statement_fault.StatementFault.TheVariants.{Refused, Memory}
use Rattle.star_store.specs.Done.{Commits, DeclaresTable}
use Rattle.star_store.specs.Fault.{TellsReasonFirst}
use Rattle.star_store.specs.Parts.{AddsDimension}
use Rattle.query_meaning.specs.KeptTables.{AreSound, rows_of_all, tables_of}

-- settled tables stay settled by a change that they take
abbrev pub StaysSettled : Type 0
StaysSettled = (store : Store) (change : Change) → IsSettled store → Accepts store change → IsSettled (after_change store change)

-- Loads and deletes.

pub settled_by : StaysSettled → (found : Result Change Refusal) (old new : KeyedStore) (result : Result Done StatementFault)
    → ((change : Change) → found ≡ Ok change → Accepts (plain old) change) → IsSettled (plain old) → Commits found old new result → IsSettled (plain new)
settled_by stays (Ok change) old new (Ok done) takes settled is =
    subst IsSettled (sym is.0) (stays (plain old) change settled (takes change refl))
settled_by stays (Err reason) old new (Ok done) takes settled is = absurd is
settled_by stays found old new (Err (Refused reason)) takes settled is = subst (λ store. IsSettled (plain store)) (sym is.1) settled
settled_by stays found old new (Err Memory) takes settled is = subst (λ store. IsSettled (plain store)) (sym is) settled

all_plain : (P : PlainVersion → Type 0) (versions : List Version) → All P (map plain_version versions) → All (λ version. P (plain_version version)) versions
all_plain P [] all = All-nil (λ version. P (plain_version version))
all_plain P (version ∷ versions) all =
    All-cons (λ v. P (plain_version v)) version versions (All-head P (plain_version version) (map plain_version versions) all)
    (all_plain P versions (All-tail P (plain_version version) (map plain_version versions) all))

-- the rows of the versions fit the fact table
pub versions_fit : (fact : Option TableDef) (versions : List Version)
    → IfSome fact (λ table. All (λ (version : PlainVersion). IsTrue (fits_table table version.row)) (map plain_version versions))
    → IfSome fact (λ table. All (λ (version : Version). IsTrue (fits_table table version.row)) versions)
versions_fit None versions fit = tt
versions_fit (Some table) versions fit = all_plain (λ version. IsTrue (fits_table table version.row)) versions fit

-- Declarations.

dimension_by : (a b c : Bool) (table other : TableDef)
    → cond {A = Result TableDef Refusal} a (Err OutOfOrder) (cond b (Err DuplicateName) (cond c (Err Limit) (Ok table))) ≡ Ok other
    → (a ≡ false) × (table ≡ other)
dimension_by true b c table other e = cc
dimension_by false true c table other e = cc
dimension_by false false true table other e = cc
dimension_by false false false table other e = (refl, cc)

fact_by : (a b c d e : Bool) (table other : TableDef)
    → cond {A = Result TableDef Refusal} a (Err OutOfOrder) (cond b (Err DuplicateName) (cond c (Err UnknownName) (cond d (Err Limit) (cond e (Err TypeMismatch) (Ok table))))) ≡ Ok other
    → (a ≡ false) × (table ≡ other)
fact_by true b c d e table other h = cc
fact_by false true c d e table other h = cc
fact_by false false true d e table other h = cc
fact_by false false false true e table other h = cc
fact_by false false false false true table other h = cc
fact_by false false false false false table other h = (refl, cc)

undeclared : (fact : Option TableDef) → is_some fact ≡ false → fact ≡ None
undeclared None is = refl
undeclared (Some table) is = cc

no_versions : (versions : List Version) → map plain_version versions ≡ [] → versions ≡ []
no_versions [] none = refl
no_versions (version ∷ versions) none = cc

-- before the fact table is declared there is no version, and so none without its key numbers
keyed_before : (schema : Schema) (dimensions : List (List DimensionRow)) (versions : List Version) → map plain_version versions ≡ []
    → All (HasKeyNumbers schema dimensions) versions
keyed_before schema dimensions versions none =
    subst (All (HasKeyNumbers schema dimensions)) (sym (no_versions versions none)) (All-nil (HasKeyNumbers schema dimensions))

dimension_declared : StaysSettled → (schema grown : Schema) (dims more : List (Roomy DimensionRow)) (facts : Roomy Version) (commits : ℕ) (table : TableDef)
    (found : Result TableDef Refusal) → 0 < length table.columns → ReferencesNothing table → declared_dimension schema table ≡ found
    → IsOkAnd found (λ declared. grown ≡ with_dimension schema declared) → rows_of_all more ≡ rows_of_all dims ++ [] ∷ []
    → AreSound (tables_of schema dims facts commits) → AreSound (tables_of grown more facts commits)
dimension_declared stays schema grown dims more facts commits table (Err reason) some nothing e schema_is rows_are sound = absurd schema_is
dimension_declared stays schema grown dims more facts commits table (Ok declared) some nothing e schema_is rows_are sound =
    let tests = dimension_by (is_some schema.fact) (takes_a_name_twice schema table)
    (nat_le MAX_DIMENSIONS (length schema.dimensions) || nat_lt MAX_COLUMNS (length table.columns)) table declared e in
    let accepted : declared_dimension schema table ≡ Ok table = e ∙ ap Ok (sym tests.1) in
    let is : grown ≡ with_dimension schema table = schema_is ∙ ap (with_dimension schema) (sym tests.1) in
    let settled = stays (plain (tables_of schema dims facts commits)) (DimensionDeclared table) sound.0 (accepted, some, nothing) in
    let none : map plain_version facts.items ≡ [] = (sound.0.first_rows (undeclared schema.fact tests.0)).1 in (
      subst IsSettled (sym (λ i. record { schema = is i; dimensions = rows_are i; versions = map plain_version facts.items; commits = commits })) settled,
      keyed_before grown (rows_of_all more) facts.items none,
    )

pub dimension_sound : StaysSettled → (schema grown : Schema) (dims more : List (Roomy DimensionRow)) (facts : Roomy Version) (commits : ℕ) (table : TableDef)
    (result : Result (Unit {0}) StatementFault) → 0 < length table.columns → ReferencesNothing table
    → OnOk result (AddsDimension table schema grown (rows_of_all dims) (rows_of_all more)) → OnErr result ((grown ≡ schema) × (more ≡ dims))
    → AreSound (tables_of schema dims facts commits) → AreSound (tables_of grown more facts commits)
dimension_sound stays schema grown dims more facts commits table (Ok done) some nothing added same sound =
    dimension_declared stays schema grown dims more facts commits table (declared_dimension schema table) some nothing refl added.schema added.rows sound
dimension_sound stays schema grown dims more facts commits table (Err fault) some nothing added same sound =
    subst AreSound (sym (λ i. tables_of (same.0 i) (same.1 i) facts commits)) sound

-- the tables after a dimension more
dimension_added : (schema grown : Schema) (dims more : List (Roomy DimensionRow)) (facts : Roomy Version) (commits : ℕ) (found : Result TableDef Refusal)
    → IsOkAnd found (λ declared. grown ≡ with_dimension schema declared) → rows_of_all more ≡ rows_of_all dims ++ [] ∷ []
    → IsOkAnd found (λ declared. plain (tables_of grown more facts commits) ≡ after_change (plain (tables_of schema dims facts commits)) (DimensionDeclared declared))
dimension_added schema grown dims more facts commits (Err reason) schema_is rows_are = absurd schema_is
dimension_added schema grown dims more facts commits (Ok declared) schema_is rows_are =
    λ i. record { schema = schema_is i; dimensions = rows_are i; versions = map plain_version facts.items; commits = commits }

-- a dimension is declared, or is refused for its reason
pub dimension_declares : (schema grown : Schema) (dims more : List (Roomy DimensionRow)) (facts : Roomy Version) (commits : ℕ) (table : TableDef)
    (result : Result (Unit {0}) StatementFault)
    → OnOk result (AddsDimension table schema grown (rows_of_all dims) (rows_of_all more))
    → IfErr result (TellsReasonFirst (declared_dimension schema table)) → OnErr result ((grown ≡ schema) × (more ≡ dims))
    → DeclaresTable DimensionDeclared (declared_dimension schema table) (tables_of schema dims facts commits) (tables_of grown more facts commits) result
dimension_declares schema grown dims more facts commits table (Ok done) added tells same =
    dimension_added schema grown dims more facts commits (declared_dimension schema table) added.schema added.rows
dimension_declares schema grown dims more facts commits table (Err (Refused reason)) added tells same =
    (tells, λ i. tables_of (same.0 i) (same.1 i) facts commits)
dimension_declares schema grown dims more facts commits table (Err Memory) added tells same =
    (tells, λ i. tables_of (same.0 i) (same.1 i) facts commits)

fact_declared : StaysSettled → (schema grown : Schema) (dims : List (Roomy DimensionRow)) (facts : Roomy Version) (commits : ℕ) (table : TableDef)
    (found : Result TableDef Refusal) → 0 < length table.columns → declared_fact schema table ≡ found
    → IsOkAnd found (λ declared. grown ≡ with_fact schema declared)
    → AreSound (tables_of schema dims facts commits) → AreSound (tables_of grown dims facts commits)
fact_declared stays schema grown dims facts commits table (Err reason) some e schema_is sound = absurd schema_is
fact_declared stays schema grown dims facts commits table (Ok declared) some e schema_is sound =
    let tests = fact_by (is_some schema.fact) (takes_a_name_twice schema table || references_twice schema table.columns)
    (list_any (references_nothing schema) table.columns) (nat_lt MAX_COLUMNS (length table.columns))
    (list_any (references_another_kind schema) table.columns) table declared e in
    let accepted : declared_fact schema table ≡ Ok table = e ∙ ap Ok (sym tests.1) in
    let is : grown ≡ with_fact schema table = schema_is ∙ ap (with_fact schema) (sym tests.1) in
    let settled = stays (plain (tables_of schema dims facts commits)) (FactDeclared table) sound.0 (accepted, some) in
    let none : map plain_version facts.items ≡ [] = (sound.0.first_rows (undeclared schema.fact tests.0)).1 in (
      subst IsSettled (sym (λ i. record { schema = is i; dimensions = rows_of_all dims; versions = map plain_version facts.items; commits = commits })) settled,
      keyed_before grown (rows_of_all dims) facts.items none,
    )

pub fact_sound : StaysSettled → (schema grown : Schema) (dims : List (Roomy DimensionRow)) (facts : Roomy Version) (commits : ℕ) (table : TableDef)
    → 0 < length table.columns → IsOkAnd (declared_fact schema table) (λ declared. grown ≡ with_fact schema declared)
    → AreSound (tables_of schema dims facts commits) → AreSound (tables_of grown dims facts commits)
fact_sound stays schema grown dims facts commits table some schema_is sound =
    fact_declared stays schema grown dims facts commits table (declared_fact schema table) some refl schema_is sound
