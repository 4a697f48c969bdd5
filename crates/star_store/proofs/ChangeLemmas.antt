-- Which of the checks of a load refuses it, and the tables behind a load or a delete.
use Rattle.std.proofs.Common.{◌≡◌, ℕ, zero, suc, ◌+◌, ◌≤◌, ◌<◌, Bool, true, false, List, [], ◌∷◌, length, map, Option, Some, None, Result, Ok, Err, refl, ap, sym, subst, ◌∙◌, arith}
use Rattle.std.specs.Prelude.{IfSome, OnOk, is_none, slice_get}
use Rattle.std.specs.List.{All, fold}
use Rattle.std.proofs.lemmas.List.Elements.{All-cons, All-head, All-nil, All-tail, All-weaker}
use Rattle.star_values.specs.declared.refusal.Refusal.{Refusal}
use Rattle.star_values.specs.declared.refusal.Refusal.TheVariants.{OutOfOrder, UnknownName}
use Rattle.star_values.specs.Roomy.{Roomy}
use Rattle.star_plan.specs.declared.schema.Schema.{Schema}
use Rattle.star_plan.specs.declared.table.Table.{Table}
use Rattle.star_plan.specs.declared.table_def.TableDef.{TableDef}
use Rattle.star_plan.specs.Test.{Test}
use Rattle.star_plan.specs.Named.{table_named}
use Rattle.fact_versions.specs.declared.version.Version.{Version}
use Rattle.fact_versions.specs.Ends as ends
use Rattle.dimension_rows.specs.declared.dimension_row.DimensionRow.{DimensionRow}
use Rattle.csv_load.specs.Records.{records_in}
use Rattle.query_meaning.specs.History.{Change, grown_at, with_end, with_ends}
use Rattle.query_meaning.specs.Keyed.{HasKeyNumbers, IsKeyed, plain, plain_version}
use Rattle.query_meaning.specs.Settled.{AreRowsOf, IsSettled}
use Rattle.query_meaning.specs.Store.{Store, rows_in}
use Rattle.star_store.specs.declared.done.Done.{Done}
use Rattle.star_values.specs.declared.statement_fault.StatementFault.{StatementFault}
use Rattle.star_values.specs.declared.statement_fault.StatementFault.TheVariants.{Refused, Memory}
use Rattle.star_store.specs.Deletes.{delete_change, positions_of}
use Rattle.star_store.specs.Done.{Commits}
use Rattle.query_meaning.specs.KeptTables.{rows_of_all, tables_of}
use Rattle.star_store.specs.Loads.{load_change, loaded_records}

-- The checks of a load.

pub load_change-early : (store : Store) (name : List ℕ) (header : Bool) (block : List ℕ) → is_none store.schema.fact ≡ true
    → load_change store name header block ≡ Err OutOfOrder
unfolding load_change
load_change-early store name header block none = rw none refl

pub load_change-unknown : (store : Store) (name : List ℕ) (header : Bool) (block : List ℕ) → is_none store.schema.fact ≡ false
    → table_named store.schema name ≡ None → load_change store name header block ≡ Err UnknownName
unfolding load_change
load_change-unknown store name header block declared unknown = rw (declared, unknown) refl

pub load_change-found : (store : Store) (name : List ℕ) (header : Bool) (block : List ℕ) (table : Table) → is_none store.schema.fact ≡ false
    → table_named store.schema name ≡ Some table → load_change store name header block ≡ loaded_records store table (records_in header block)
unfolding load_change
load_change-found store name header block table declared found = rw (declared, found) refl

-- Rows of dimensions.

loaded_by : (tables : List TableDef) (dimensions : List (List DimensionRow)) (commits : ℕ) → length dimensions ≡ length tables
    → ((dimension : ℕ) → IfSome (slice_get tables dimension) (λ table. AreRowsOf table commits (rows_in dimensions dimension)))
    → (dimension : ℕ) → All (λ entry. entry.commit ≤ commits) (rows_in dimensions dimension)
loaded_by [] [] commits count rows dimension = All-nil (λ (entry : DimensionRow). entry.commit ≤ commits)
loaded_by [] (first ∷ dimensions) commits count rows dimension = absurd (omega arith)
loaded_by (table ∷ tables) [] commits count rows dimension = absurd (omega arith)
loaded_by (table ∷ tables) (first ∷ dimensions) commits count rows zero =
    let are : AreRowsOf table commits first = rows 0 in
    All-weaker (λ entry. (0 < entry.commit) × (entry.commit ≤ commits)) (λ entry. entry.commit ≤ commits) (λ entry is. is.1) first are.loaded
loaded_by (table ∷ tables) (first ∷ dimensions) commits count rows (suc dimension) =
    loaded_by tables dimensions commits (omega arith) (λ d. rows (suc d)) dimension

-- the rows of settled tables came by commits so far
pub loaded_in : (store : Store) → IsSettled store → (dimension : ℕ) → All (λ entry. entry.commit ≤ store.commits) (rows_in store.dimensions dimension)
loaded_in store settled dimension = loaded_by store.schema.dimensions store.dimensions store.commits settled.count settled.rows dimension

-- key numbers stay those of their keys where a dimension grows
abbrev KeepsKeyNumbers : Type 0
KeepsKeyNumbers = (schema : Schema) (dimensions : List (List DimensionRow)) (number : ℕ) (more : List DimensionRow) (version : Version)
    → HasKeyNumbers schema dimensions version → HasKeyNumbers schema (grown_at number more dimensions) version

-- the versions have their key numbers where the rows of a dimension have grown, or nothing changed
pub keyed_after : KeepsKeyNumbers → (schema : Schema) (dims grown : List (Roomy DimensionRow)) (facts : Roomy Version) (commits next number : ℕ)
    (found : Result Change Refusal) (result : Result Done StatementFault)
    → Commits found (tables_of schema dims facts commits) (tables_of schema grown facts next) result
    → OnOk result ((more : List DimensionRow) × (rows_of_all grown ≡ grown_at number more (rows_of_all dims)))
    → IsKeyed (tables_of schema dims facts commits) → IsKeyed (tables_of schema grown facts next)
keyed_after keeps schema dims grown facts commits next number found (Ok done) commits_is grows keyed =
    subst (λ dimensions. All (HasKeyNumbers schema dimensions) facts.items) (sym grows.1)
    (All-weaker (HasKeyNumbers schema (rows_of_all dims)) (HasKeyNumbers schema (grown_at number grows.0 (rows_of_all dims)))
    (keeps schema (rows_of_all dims) number grows.0) facts.items keyed)
keyed_after keeps schema dims grown facts commits next number found (Err (Refused reason)) commits_is grows keyed = subst IsKeyed (sym commits_is.1) keyed
keyed_after keeps schema dims grown facts commits next number found (Err Memory) commits_is grows keyed = subst IsKeyed (sym commits_is) keyed

-- Versions that are ended.

plain_with_end : (commit : ℕ) (versions : List Version) (position : ℕ)
    → map plain_version (ends.with_end versions position commit) ≡ with_end commit (map plain_version versions) position
plain_with_end commit [] position = refl
plain_with_end commit (version ∷ versions) zero = refl
plain_with_end commit (version ∷ versions) (suc position) =
    ap (λ rest. plain_version version ∷ rest) (plain_with_end commit versions position)

abbrev ended_at : (commit : ℕ) → List Version → List ℕ → List Version
ended_at commit versions positions = fold (λ vs position. ends.with_end vs position commit) versions positions

plain_ended : (commit : ℕ) (versions : List Version) (positions : List ℕ)
    → map plain_version (ended_at commit versions positions) ≡ with_ends commit (map plain_version versions) positions
plain_ended commit versions [] = refl
plain_ended commit versions (position ∷ positions) =
    plain_ended commit (ends.with_end versions position commit) positions
    ∙ ap (λ plain_versions. with_ends commit plain_versions positions) (plain_with_end commit versions position)

pub committed_ends : (schema : Schema) (dims : List (Roomy DimensionRow)) (facts ended : Roomy Version) (commits commit rows : ℕ) (condition : Option Test)
    → is_none schema.fact ≡ false
    → ended.items ≡ ended_at commit facts.items (positions_of condition (map plain_version facts.items))
    → commit ≡ commits + 1 → rows ≡ length (positions_of condition (map plain_version facts.items))
    → Commits (delete_change (plain (tables_of schema dims facts commits)) condition) (tables_of schema dims facts commits)
    (tables_of schema dims ended commit) (Ok (record { commit = commit; rows = rows }))
committed_ends schema dims facts ended commits commit rows condition declared is next count =
    let positions = positions_of condition (map plain_version facts.items) in
    let versions : map plain_version ended.items ≡ with_ends (commits + 1) (map plain_version facts.items) positions =
    ap (map plain_version) is ∙ plain_ended commit facts.items positions
    ∙ ap (λ n. with_ends n (map plain_version facts.items) positions) next in
    rw declared (
      λ i. record { schema = schema; dimensions = rows_of_all dims; versions = versions i; commits = next i },
      λ i. record { commit = next i; rows = count i },
    )

keyed_with_end : (schema : Schema) (dimensions : List (List DimensionRow)) (commit : ℕ) (versions : List Version) (position : ℕ)
    → All (HasKeyNumbers schema dimensions) versions → All (HasKeyNumbers schema dimensions) (ends.with_end versions position commit)
keyed_with_end schema dimensions commit [] position keyed = keyed
keyed_with_end schema dimensions commit (version ∷ versions) zero keyed =
    let P = HasKeyNumbers schema dimensions in
    All-cons P (record version { end = commit }) versions (All-head P version versions keyed) (All-tail P version versions keyed)
keyed_with_end schema dimensions commit (version ∷ versions) (suc position) keyed =
    let P = HasKeyNumbers schema dimensions in
    All-cons P version (ends.with_end versions position commit) (All-head P version versions keyed)
    (keyed_with_end schema dimensions commit versions position (All-tail P version versions keyed))

pub keyed_ended : (schema : Schema) (dimensions : List (List DimensionRow)) (commit : ℕ) (versions : List Version) (positions : List ℕ)
    → All (HasKeyNumbers schema dimensions) versions → All (HasKeyNumbers schema dimensions) (ended_at commit versions positions)
keyed_ended schema dimensions commit versions [] keyed = keyed
keyed_ended schema dimensions commit versions (position ∷ positions) keyed =
    keyed_ended schema dimensions commit (ends.with_end versions position commit) positions
    (keyed_with_end schema dimensions commit versions position keyed)
