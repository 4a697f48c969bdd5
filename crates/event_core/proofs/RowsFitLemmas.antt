-- What a query takes of a dimension may be asked of its rows.
use Rattle.event_core.proofs.Words.{◌∙◌, ◌∷◌, ◌≡◌, ◌≤◌, [], All, ap, arith, DimensionRow, FitByKinds, get_or, get_or_past, IfSome, IsSettled, IsTrue, kinds_in, length, List, None, Option, option_map_or, Query, refl, rows_in, Selection, selection_fits, selection_in, slice_get, Some, Store, suc, TableDef, true, zero, ℕ}
use Rattle.star_values.specs.declared.value.Kind.{Kind}
use Rattle.star_plan.specs.Columns.{kinds_of}
use Rattle.star_plan.specs.Over.{IsOver}
use Rattle.star_plan.specs.Test.{Unnamed}
use Rattle.query_meaning.specs.Settled.{AreRowsOf}

-- there is nothing past a list
none_past : {X : Type 0} (xs : List X) (place : ℕ) → slice_get xs place ≡ None → length xs ≤ place
none_past [] place is = omega arith
none_past (x ∷ xs) zero is = cc
none_past (x ∷ xs) (suc place) is = omega (arith, none_past xs place is)

-- what is not chosen fits any columns
or-unnamed : (kinds : List Kind) (choices : List Selection) (place : ℕ)
    → option_map_or (selection_fits kinds) (slice_get choices place) true ≡ true → selection_fits kinds (get_or choices place Unnamed) ≡ true
or-unnamed kinds [] place is = refl
or-unnamed kinds (choice ∷ choices) zero is = is
or-unnamed kinds (choice ∷ choices) (suc place) is = or-unnamed kinds choices place is

-- a selection that fits the columns of a table may be asked of its rows
table-fits : FitByKinds → (table : Option TableDef) (choices : List Selection) (dimension commits : ℕ) (rows : List DimensionRow)
    → option_map_or (selection_fits (kinds_of (option_map_or (λ (t : TableDef). t.columns) table []))) (slice_get choices dimension) true ≡ true
    → IfSome table (λ t. AreRowsOf t commits rows) → (table ≡ None → rows ≡ [])
    → All (λ entry. IsTrue (selection_fits (kinds_in entry.row) (get_or choices dimension Unnamed))) rows
table-fits fit None choices dimension commits rows fits are none =
    let gone = ap length (none refl) in
    λ k d low. absurd (omega arith)
table-fits fit (Some table) choices dimension commits rows fits are none = λ k d low.
    ap (λ kinds. selection_fits kinds (get_or choices dimension Unnamed)) ((fit table (get_or rows k d).row).0 (are.fit k d low))
    ∙ or-unnamed (kinds_of table.columns) choices dimension fits

-- a query over settled tables
pub rows-fit : FitByKinds → (store : Store) (query : Query) (dimension : ℕ) → IsSettled store → IsOver store.schema query
    → All (λ entry. IsTrue (selection_fits (kinds_in entry.row) (selection_in query dimension))) (rows_in store.dimensions dimension)
rows-fit fit store query dimension settled over =
    table-fits fit (slice_get store.schema.dimensions dimension) query.choices dimension store.commits (rows_in store.dimensions dimension)
    (over.chosen dimension) (settled.rows dimension) (λ none.
    let high = none_past store.schema.dimensions dimension none in
    let count = settled.count in
    get_or_past store.dimensions dimension [] (omega arith))
