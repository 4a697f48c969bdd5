-- What fits a table names only its columns, and which rows fit it.
use Rattle.std.proofs.Common.{◌≡◌, ◌↔◌, ℕ, zero, suc, ◌<◌, true, List, [], ◌∷◌, length, map, refl, sym, arith}
use Rattle.std.specs.Prelude.{IsTrue}
use Rattle.std.specs.Bool.{Decides}
use Rattle.std.proofs.lemmas.Slice.Eq.{slice_eq-Decides}
use Rattle.star_values.specs.declared.value.Kind.{Kind}
use Rattle.star_values.specs.declared.value.Kind.TheVariants.{Int, Text}
use Rattle.star_values.specs.declared.value.Value.{Value}
use Rattle.star_values.specs.Value.{kind_of, kinds_in}
use Rattle.star_plan.specs.declared.table_def.TableDef.{TableDef}
use Rattle.star_plan.specs.Columns.{kinds_of}
use Rattle.star_plan.specs.Fits.{fits_column, fits_table, same_kind}

-- a column that takes a value is a column
pub column_below : (row : List Value) (column : ℕ) (value : Value) → fits_column (map kind_of row) column value ≡ true → column < length row
column_below [] column value h = cc
column_below (first ∷ row) zero value h = omega arith
column_below (first ∷ row) (suc column) value h = omega (arith, column_below row column value h)

Decides-same_kind : (kind other : Kind) → Decides (same_kind kind other) (kind ≡ other)
Decides-same_kind Int Int = (λ _. refl, λ _. refl)
Decides-same_kind Int Text = (λ h. cc, λ h. cc)
Decides-same_kind Text Int = (λ h. cc, λ h. cc)
Decides-same_kind Text Text = (λ _. refl, λ _. refl)

-- a row fits a table where its values have the kinds of the columns
pub fits_table-law : (table : TableDef) (row : List Value) → IsTrue (fits_table table row) ↔ (kinds_in row ≡ kinds_of table.columns)
fits_table-law table row =
    let same = slice_eq-Decides Decides-same_kind (kinds_of table.columns) (kinds_in row) (fits_table table row) refl in
    (λ h. sym (same.0 h), λ h. same.1 (sym h))
