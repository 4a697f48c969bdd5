-- The reason of a refusal is one that a reply may have, and a change that is a commit keeps the tables so.
use Rattle.std.proofs.Common.{◌≡◌, ℕ, zero, suc, ◌+◌, ◌<◌, ◌≤◌, ◌^◌, Bool, true, false, nat_lt, List, length, Option, Some, None, Result, Ok, Err, All, refl, ap, arith}
use Rattle.std.specs.Prelude.{⊤, ◌↔◌, IfSome, IfOk, is_none, slice_get, if◌then◌else◌}
use Rattle.std.specs.List.{list_any, range_with_len}
use Rattle.std.specs.Option.{option_map_or}
use Rattle.std.proofs.lemmas.Bool.Decides.{nat_tests}
use Rattle.star_values.specs.declared.refusal.Refusal.{Refusal}
use Rattle.star_values.specs.declared.refusal.Refusal.TheVariants as refusal
use Rattle.star_values.specs.declared.value.Value.{Value}
use Rattle.script_reader.specs.declared.statement.Statement.{Statement}
use Rattle.star_parser.specs.Printed.{IsShaped}
use Rattle.star_parser.specs.Sentence.{IsSentence}
use Rattle.star_parser.specs.Statement as written
use Rattle.star_plan.specs.Columns.{columns_of, kinds_of}
use Rattle.star_plan.specs.Over.{IsOver}
use Rattle.star_plan.specs.Test.{Test}
use Rattle.star_plan.specs.declared.schema.Schema.{Schema}
use Rattle.star_plan.specs.declared.table.Table.{Table}
use Rattle.star_plan.specs.declared.table.Table.TheVariants as table
use Rattle.star_plan.specs.declared.table_def.TableDef.{TableDef}
use Rattle.star_plan.specs.Declaration.{declared_dimension, declared_fact}
use Rattle.star_plan.specs.Named.{table_named}
use Rattle.star_binder.specs.Refused.{bound_delete, bound_in, bound_over, bound_select, fact_alone, from_tables}
use Rattle.star_binder.specs.Scope.{TablesInScope}
use Rattle.star_binder.specs.Select.{SelectParts}
use Rattle.star_parser.specs.Condition.{Condition}
use Rattle.fact_versions.specs.declared.version.TheConstants.{MAX_VERSIONS}
use Rattle.csv_load.specs.Records.{records_in}
use Rattle.csv_load.specs.Rows.{typed_rows}
use Rattle.query_meaning.specs.History.{Change, Loaded, Ended}
use Rattle.query_meaning.specs.Store.{PlainVersion, Store, rows_in}
use Rattle.star_store.specs.Deletes.{delete_change, is_ended_by, positions_of}
use Rattle.star_store.specs.Done.{changed_rows}
use Rattle.star_store.specs.Loads.{count_in, dangles, load_change, loaded_records, loaded_rows, most_in, repeats_a_key}
use Rattle.reply_text.specs.Formed.{IsRefusal}
use Rattle.star_store.specs.Text.{IsWhole, IsWithin, StopsAt, meaning_of}
use Rattle.star_store.proofs.ValueLemmas.{AreValues, TextsAreTested, either, filter-short, map_or, rows-count, rows-values}
use Rattle.star_store.proofs.StoreLemmas.{IsKept, IsSmall}

-- what the crates below say
pub record Below : Type 0 where
  pub tested : TextsAreTested
  pub passed : (statement : Statement) (meaning : written.Statement) → (meaning_of statement ≡ Ok meaning) ↔ (IsWithin statement.line × IsWhole statement meaning)
  pub syntax : (statement : Statement) (place : ℕ) → meaning_of statement ≡ Err (refusal.Syntax place) → IsWithin statement.line × StopsAt statement place
  pub shaped : (line : List ℕ) (meaning : written.Statement) → IsSentence line meaning → IsShaped meaning
  pub over : (schema : Schema) (select : SelectParts) → 0 < length select.items → IfOk (bound_select schema select) (λ query. IsOver schema query)

-- ---- reasons

abbrev ReasonIs : {A : Type 0} → Result A Refusal → Type 0
ReasonIs (Ok x) = ⊤
ReasonIs (Err reason) = IsRefusal reason

-- a reason that a reply may have, if there is one
pub record HasReason {A : Type 0} (result : Result A Refusal) : Type 0 where
  pub reason : ReasonIs result

passes : {A : Type 0} (x : A) → HasReason {A = A} (Ok x)
passes x = record { reason = tt }

unless : {A : Type 0} (test : Bool) (why : Refusal) (others : Result A Refusal) → IsRefusal why → HasReason others → HasReason (if test then Err why else others)
unless true why others h k = record { reason = h }
unless false why others h k = k

pub dimension-reason : (schema : Schema) (its : TableDef) → HasReason (declared_dimension schema its)
dimension-reason schema its = unless _ refusal.OutOfOrder _ tt (unless _ refusal.DuplicateName _ tt (unless _ refusal.Limit _ tt (passes its)))

pub fact-reason : (schema : Schema) (its : TableDef) → HasReason (declared_fact schema its)
fact-reason schema its =
    unless _ refusal.OutOfOrder _ tt (unless _ refusal.DuplicateName _ tt (unless _ refusal.UnknownName _ tt (unless _ refusal.Limit _ tt
    (unless _ refusal.TypeMismatch _ tt (passes its)))))

over-reason : (scope : TablesInScope) (select : SelectParts) → HasReason (bound_over scope select)
over-reason scope select =
    unless _ refusal.DuplicateName _ tt (unless _ refusal.UnknownName _ tt (unless _ refusal.Limit _ tt (unless _ refusal.AmbiguousName _ tt
    (unless _ refusal.TypeMismatch _ tt (unless _ refusal.MissingJoin _ tt (unless _ refusal.MixedConjunct _ tt (unless _ refusal.NotGrouped _ tt (passes _))))))))

pub select-reason : (schema : Schema) (select : SelectParts) → HasReason (bound_select schema select)
unfolding bound_select
select-reason schema select = over-reason (from_tables schema select.names) select

in-reason : (scope : TablesInScope) (name : List ℕ) (conjuncts : List Condition) → HasReason (bound_in scope name conjuncts)
in-reason scope name conjuncts = unless _ refusal.UnknownName _ tt (unless _ refusal.TypeMismatch _ tt (unless _ refusal.MixedConjunct _ tt (passes _)))

pub delete-reason : (schema : Schema) (name : List ℕ) (conjuncts : List Condition) → HasReason (bound_delete schema name conjuncts)
unfolding bound_delete
delete-reason schema name conjuncts = in-reason (fact_alone schema) name conjuncts

-- ---- commits

abbrev CommitIs : Store → Result Change Refusal → Type 0
CommitIs store (Ok change) = IsSmall store change × (changed_rows change < 2 ^ 64)
CommitIs store (Err reason) = IsRefusal reason

pub record IsCommit (store : Store) (result : Result Change Refusal) : Type 0 where
  pub is : CommitIs store result

facts-commit : (store : Store) (rows : List (List Value)) → All AreValues rows → length store.versions + length rows ≤ MAX_VERSIONS
    → IsCommit store (loaded_rows store table.Fact rows)
facts-commit store rows values few =
    either (IsCommit store) (list_any (dangles store.schema store.dimensions) rows) (Err refusal.DanglingReference) (Ok (Loaded table.Fact rows))
    (record { is = tt }) (record { is = ((values, few), omega (arith, few)) })

rows-commit : (store : Store) (dimension : ℕ) (rows : List (List Value)) → All AreValues rows → length rows < 2 ^ 64
    → IsCommit store (loaded_rows store (table.Dimension dimension) rows)
rows-commit store dimension rows values few =
    either (IsCommit store) (repeats_a_key (rows_in store.dimensions dimension) rows) (Err refusal.DuplicateKey) (Ok (Loaded (table.Dimension dimension) rows))
    (record { is = tt }) (record { is = ((values, few), few) })

-- rows that have values and are few enough for their table
record AreFor (store : Store) (its : Table) (rows : List (List Value)) : Type 0 where
  values : All AreValues rows
  few : count_in store its + length rows ≤ most_in its

loaded-commit : (store : Store) (its : Table) (rows : List (List Value)) → AreFor store its rows → IsCommit store (loaded_rows store its rows)
loaded-commit store table.Fact rows h = facts-commit store rows h.values h.few
loaded-commit store (table.Dimension dimension) rows h = let few = h.few in rows-commit store dimension rows h.values (omega (arith, few))

for-table : (store : Store) (its : Table) (count : ℕ) (o : Option (List (List Value))) → count_in store its + count ≤ most_in its
    → IfSome o (All AreValues) → IfSome o (λ rows. length rows ≡ count) → IfSome o (AreFor store its)
for-table store its count None few h k = tt
for-table store its count (Some rows) few h k = record { values = h; few = omega (arith, few, k) }

records-commit : Below → (store : Store) (its : Table) (records : List (List (List ℕ))) → IsCommit store (loaded_records store its records)
records-commit below store its records = by (nat_lt (most_in its) (count_in store its + length records)) refl
  where
    rest : Result Change Refusal
    rest = option_map_or (loaded_rows store its) (typed_rows (kinds_of (columns_of store.schema its)) records) (Err refusal.BadRecord)

    by : (t : Bool) → nat_lt (most_in its) (count_in store its + length records) ≡ t → IsCommit store (if t then Err refusal.Limit else rest)
    by true e = record { is = tt }
    by false e =
        let kinds = kinds_of (columns_of store.schema its) in
        map_or (AreFor store its) (IsCommit store) (loaded_rows store its) (typed_rows kinds records) (Err refusal.BadRecord)
        (for-table store its (length records) (typed_rows kinds records) (grind (arith, nat_tests)) (rows-values below.tested kinds records) (rows-count kinds records))
        (λ rows h. loaded-commit store its rows h) (record { is = tt })

anything : {A : Type 0} (o : Option A) → IfSome o (λ x. ⊤)
anything None = tt
anything (Some x) = tt

pub load-commit : Below → (store : Store) (name : List ℕ) (header : Bool) (block : List ℕ) → IsCommit store (load_change store name header block)
unfolding load_change
load-commit below store name header block =
    either (IsCommit store) (is_none store.schema.fact) (Err refusal.OutOfOrder)
    (option_map_or (λ its. loaded_records store its (records_in header block)) (table_named store.schema name) (Err refusal.UnknownName)) (record { is = tt })
    (map_or (λ its. ⊤) (IsCommit store) (λ its. loaded_records store its (records_in header block)) (table_named store.schema name) (Err refusal.UnknownName)
    (anything (table_named store.schema name)) (λ its _. records-commit below store its (records_in header block)) (record { is = tt }))

range-length : (a n : ℕ) → length (range_with_len a n) ≡ n
range-length a zero = refl
range-length a (suc n) = ap suc (range-length (a + 1) n)

ended-few : (condition : Option Test) (versions : List PlainVersion) → length (positions_of condition versions) ≤ length versions
ended-few condition versions =
    omega (
      arith,
      filter-short (λ position. option_map_or (is_ended_by condition) (slice_get versions position) false) (range_with_len 0 (length versions)),
      range-length 0 (length versions),
    )

pub delete-commit : (store : Store) (condition : Option Test) → IsKept store → IsCommit store (delete_change store condition)
delete-commit store condition h =
    let few = ended-few condition store.versions in
    either (IsCommit store) (is_none store.schema.fact) (Err refusal.OutOfOrder) (Ok (Ended (positions_of condition store.versions))) (record { is = tt })
    (record { is = (few, omega (arith, few, h.few)) })
