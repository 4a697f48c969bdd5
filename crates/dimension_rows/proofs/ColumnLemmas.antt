-- Columns beside rows, with one row more.
use Rattle.std.proofs.Common.{◌≡◌, ℕ, ℤ, List, [], ◌∷◌, ◌++◌, length, sym, subst}
use Rattle.std.proofs.lemmas.List.{length-map, map-append}
use Rattle.star_values.specs.First.{AreIntegerColumns, AreCodeColumns}
use Rattle.dimension_rows.specs.declared.dimension_row.DimensionRow.{DimensionRow}
use Rattle.dimension_rows.specs.Integers.{AreColumns, values_of}

-- there are as many values as rows
pub values_of-length : (rows : List DimensionRow) → length (values_of rows) ≡ length rows
values_of-length rows = length-map rows (λ (entry : DimensionRow). entry.row)

-- the values of rows with one more
values_of-append : (rows : List DimensionRow) (entry : DimensionRow) → values_of (rows ++ entry ∷ []) ≡ values_of rows ++ entry.row ∷ []
values_of-append rows entry = map-append (λ (entry : DimensionRow). entry.row) rows (entry ∷ [])

-- columns that have the values of one row more
pub AreColumns-append : (rows : List DimensionRow) (entry : DimensionRow) (integers : List (List ℤ)) (codes : List (List ℕ))
    → AreIntegerColumns (values_of rows ++ entry.row ∷ []) integers → AreCodeColumns (values_of rows ++ entry.row ∷ []) codes → AreColumns (rows ++ entry ∷ []) integers codes
AreColumns-append rows entry integers codes of_integers of_codes =
    let all = sym (values_of-append rows entry) in record {
      of_integers = subst (λ values. AreIntegerColumns values integers) all of_integers;
      of_codes = subst (λ values. AreCodeColumns values codes) all of_codes;
    }
