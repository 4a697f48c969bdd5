-- What a commit answers, and the tables behind it.
use Rattle.std.proofs.Common.{◌≡◌, ℕ, suc, ◌+◌, ◌^◌, ◌<◌, ◌++◌, min, List, [], ◌∷◌, length, map, Result, Ok, Err, refl, ap, ◌∙◌, arith}
use Rattle.std.proofs.Math.Nat.{min-eq_left}
use Rattle.std.proofs.lemmas.List.{map-append}
use Rattle.star_values.specs.declared.refusal.Refusal.{Refusal}
use Rattle.star_values.specs.declared.value.Value as cell
use Rattle.star_values.specs.Roomy.{Roomy}
use Rattle.star_plan.specs.declared.schema.Schema.{Schema}
use Rattle.star_plan.specs.declared.table.Table.TheVariants.{Fact, Dimension}
use Rattle.fact_versions.specs.declared.version.Version.{Version}
use Rattle.dimension_rows.specs.declared.dimension_row.DimensionRow.{DimensionRow}
use Rattle.query_meaning.specs.History.{Change, Loaded, grown_at, rows_by, versions_by}
use Rattle.query_meaning.specs.Keyed.{KeyedStore, plain_version}
use Rattle.star_store.specs.declared.done.Done.{Done}
use Rattle.star_values.specs.declared.statement_fault.StatementFault.{StatementFault}
use Rattle.star_values.specs.declared.statement_fault.StatementFault.TheVariants.{Refused, Memory}
use Rattle.star_store.specs.Done.{Commits}
use Rattle.query_meaning.specs.KeptTables.{rows_of_all, tables_of}
use Rattle.star_store.specs.Fault.{Tells}

-- a fault that tells its reason, where the tables are as they were
pub commits_told : (found : Result Change Refusal) (old new : KeyedStore) (fault : StatementFault) → Tells found fault → new ≡ old
    → Commits found old new (Err fault)
commits_told found old new (Refused reason) tells same = (tells, same)
commits_told found old new Memory tells same = same

pub committed_rows : (schema : Schema) (dims grown : List (Roomy DimensionRow)) (facts : Roomy Version) (commits next number : ℕ)
    (rows : List (List cell.Value)) (found : Result Change Refusal) (done : Done) → found ≡ Ok (Loaded (Dimension number) rows)
    → rows_of_all grown ≡ grown_at number (rows_by (commits + 1) rows) (rows_of_all dims) → next ≡ commits + 1
    → done ≡ record { commit = commits + 1; rows = length rows }
    → Commits found (tables_of schema dims facts commits) (tables_of schema grown facts next) (Ok done)
committed_rows schema dims grown facts commits next number rows found done is rows_are next_is done_is =
    rw is (λ i. record { schema = schema; dimensions = rows_are i; versions = map plain_version facts.items; commits = next_is i }, done_is)

plain_more : (commit : ℕ) (old new : List Version) (rows : List (List cell.Value)) → map plain_version new ≡ versions_by commit rows
    → map plain_version (old ++ new) ≡ map plain_version old ++ versions_by commit rows
plain_more commit old new rows made = map-append plain_version old new ∙ ap (λ more. map plain_version old ++ more) made

pub committed_versions : (schema : Schema) (dims : List (Roomy DimensionRow)) (facts grown : Roomy Version) (commits next commit : ℕ)
    (new : List Version) (rows : List (List cell.Value)) (found : Result Change Refusal) (done : Done) → found ≡ Ok (Loaded Fact rows)
    → map plain_version new ≡ versions_by commit rows → commit ≡ commits + 1
    → grown.items ≡ facts.items ++ new → next ≡ commits + 1 → done ≡ record { commit = commits + 1; rows = length rows }
    → Commits found (tables_of schema dims facts commits) (tables_of schema dims grown next) (Ok done)
committed_versions schema dims facts grown commits next commit new rows found done is made commit_is versions_are next_is done_is =
    let versions = ap (map plain_version) versions_are ∙ plain_more commit facts.items new rows made
    ∙ ap (λ n. map plain_version facts.items ++ versions_by n rows) commit_is in
    rw is (λ i. record { schema = schema; dimensions = rows_of_all dims; versions = versions i; commits = next_is i }, done_is)

-- a number of a commit that is counted up and stands still at the last is the next one, where there is one
pub saturated : (next commits : ℕ) → next ≡ min (commits + 1) 18446744073709551615 → commits + 1 < 2 ^ 64 → next ≡ commits + 1
saturated next commits is low = is ∙ min-eq_left (omega arith)
