-- The conditions of the queries that a scan has may be asked of each version of the fact table.
use Rattle.core_state.proofs.Words.{◌<◌, ◌↔◌, ◌∙◌, ◌≡◌, [], All, All-nil, All-weaker, ap, AreTablesOf, arith, changes_of, fact_columns, get_or, get_or-map, get_or_default, IfSome, inl, inr, IsScannedAs, IsSettled, IsSound, IsSoundQuery, IsTrue, KeyedStore, length, length-map, List, map, None, OnRoster, Option, option_map_or, plain_version, PlainVersion, Query, query_of, refl, Running, Scanning, Some, State, Store, subst, sym, TableDef, tables_of, true, Version, ℕ}
use Rattle.star_values.specs.Value.{kinds_in}
use Rattle.star_values.specs.declared.value.Value as cell
use Rattle.star_plan.specs.Columns.{kinds_of}
use Rattle.star_plan.specs.Fits.{fits_table, some_test_fits}
use Rattle.continuous_scan.specs.Stamped.{CanTest, CanTestAll}
use Rattle.core_state.proofs.AcceptedLemmas.{of-accepted}
use Rattle.core_state.proofs.GivenLemmas.{Settles}
use Rattle.core_state.proofs.ScannedRunLemmas.{slot-cases}

-- a row fits a table where its values have the kinds of the table's columns
abbrev pub FitByKinds : Type 0
FitByKinds = (table : TableDef) (row : List cell.Value) → IsTrue (fits_table table row) ↔ (kinds_in row ≡ kinds_of table.columns)

-- each version of the fact table has values of its columns' kinds
row-kinds : FitByKinds → (store : Store) → IsSettled store
    → All (λ (version : PlainVersion). kinds_in version.row ≡ kinds_of (fact_columns store.schema)) store.versions
row-kinds fit store settled = by_fact store.schema.fact settled.versions.fit (λ none. (settled.first_rows none).1)
  where
    by_fact : (fact : Option TableDef) → IfSome fact (λ table. All (λ (version : PlainVersion). IsTrue (fits_table table version.row)) store.versions)
        → (fact ≡ None → store.versions ≡ [])
        → All (λ (version : PlainVersion). kinds_in version.row ≡ kinds_of (option_map_or (λ table. table.columns) fact [])) store.versions
    by_fact None fits none = subst (All (λ (version : PlainVersion). kinds_in version.row ≡ [])) (sym (none refl))
        (All-nil (λ (version : PlainVersion). kinds_in version.row ≡ []))
    by_fact (Some table) fits none =
        All-weaker (λ (version : PlainVersion). IsTrue (fits_table table version.row))
        (λ (version : PlainVersion). kinds_in version.row ≡ kinds_of table.columns)
        (λ version fits_it. (fit table version.row).0 fits_it) store.versions fits

-- the condition of a query that runs in a slot fits the fact table's columns
abbrev FitsTable : State → Option Running → Type 0
FitsTable state None = Unit {0}
FitsTable state (Some r) = some_test_fits (kinds_of (fact_columns (tables_of state).schema)) (query_of r.query).fact ≡ true

slot-fits : (state : State) (scan : Scanning) (slot : ℕ) → IsSound state → IsScannedAs state scan → slot < length state.lives.slots
    → FitsTable state (get_or scan.running slot None)
slot-fits state scan slot sound same low =
    elim (slot-cases state slot (get_or scan.running slot None) sound low (same.slots slot low)) [
      | inl none ↦ subst (FitsTable state) (sym none.1) tt
      | inr runs ↦
          let of_query : IsSoundQuery state runs.here.accepted =
          (of-accepted state runs.here.accepted.number runs.here.accepted sound.queries runs.here.found).0 in
          let asked : query_of runs.run.query ≡ runs.here.accepted.query = runs.same.query ∙ ap (λ (e : OnRoster). e.query) runs.here.is in
          subst (FitsTable state) (sym runs.there)
          (ap (λ (query : Query). some_test_fits (kinds_of (fact_columns (tables_of state).schema)) query.fact) asked ∙ of_query.over.fact)
    ]

-- it may be asked of a version whose values have the kinds of the columns
slot-asks : (state : State) (version : Version) (running : Option Running)
    → kinds_in version.row ≡ kinds_of (fact_columns (tables_of state).schema) → FitsTable state running → CanTest version running
slot-asks state version None kinds fits = tt
slot-asks state version (Some r) kinds fits = ap (λ k. some_test_fits k (query_of r.query).fact) kinds ∙ fits

pub scanned-can-test : Settles → FitByKinds → (state : State) (scan : Scanning) (store : KeyedStore) → IsSound state → IsScannedAs state scan
    → AreTablesOf state store → All (CanTestAll scan.running) store.versions
scanned-can-test settles fit state scan store sound same tables = λ row d low slot e inside.
    let there : slot < length state.lives.slots = let many = same.count in omega arith in
    let kinds : kinds_in (get_or store.versions row d).row ≡ kinds_of (fact_columns (tables_of state).schema) =
    ap (λ (v : PlainVersion). kinds_in v.row) (sym (get_or-map plain_version store.versions row d (plain_version d) low))
    ∙ all row (plain_version d) (let many = length-map store.versions plain_version in omega arith) in
    subst (CanTest (get_or store.versions row d)) (get_or_default scan.running slot None e inside)
    (slot-asks state (get_or store.versions row d) (get_or scan.running slot None) kinds (slot-fits state scan slot sound same there))
  where
    all : All (λ (version : PlainVersion). kinds_in version.row ≡ kinds_of (fact_columns (tables_of state).schema)) (map plain_version store.versions)
    all = subst (λ (s : Store). All (λ (version : PlainVersion). kinds_in version.row ≡ kinds_of (fact_columns (tables_of state).schema)) s.versions)
        (sym tables.same) (row-kinds fit (tables_of state) (settles (changes_of state.entries) sound.store))
