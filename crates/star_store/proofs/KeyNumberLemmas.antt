-- The key numbers of a row, dimension by dimension.
use Rattle.std.proofs.Common.{◌≡◌, ℕ, zero, suc, ◌+◌, ◌-◌, ◌<◌, ◌≤◌, Bool, true, false, ◌||◌, ◌==◌, List, [], ◌∷◌, length, map, get_or, replicate, set, Option, Some, None, is_none, IfSome, option_map, refl, ap, sym, subst, ◌∙◌, arith, ⊎_elim}
use Rattle.std.specs.Prelude.{IsTrue, position}
use Rattle.std.specs.List.{All, list_any, range_with_len}
use Rattle.std.specs.Option.{option_map_or}
use Rattle.std.proofs.lemmas.Bool.{cases_eq, cases_lt}
use Rattle.std.proofs.lemmas.Bool.Decides.{Decides-eqb}
use Rattle.std.proofs.lemmas.List.{get_or-map, get_or-set_same, get_or-set_other, length-set}
use Rattle.std.proofs.lemmas.List.Quantifiers.{position-Some}
use Rattle.star_values.specs.Roomy.{Roomy}
use Rattle.star_values.specs.declared.value.Value as cell
use Rattle.star_plan.specs.declared.column_def.ColumnDef.{ColumnDef}
use Rattle.star_plan.specs.declared.schema.Schema.{Schema}
use Rattle.star_plan.specs.Columns.{fact_columns}
use Rattle.star_plan.specs.Row.{value_in}
use Rattle.star_plan.specs.Declaration.{has_key_of, references}
use Rattle.star_plan.specs.Schemas.{IsDeclared, ReferencesAKey}
use Rattle.dimension_rows.specs.declared.dimension_row.DimensionRow.{DimensionRow}
use Rattle.dimension_rows.specs.Keys.{index_of}
use Rattle.query_meaning.specs.Alone.{foreign_key}
use Rattle.query_meaning.specs.Store.{rows_in}
use Rattle.star_store.specs.Loads.{dangles, dangles_at}
use Rattle.star_store.specs.Parts.{AreKeyNumbers, AreReferences}

-- the key numbers for the dimensions before one are found, those of dimensions that no column references are 0, and a
-- foreign key dangles where it is one for those that are left
pub record IsKeyedTo (schema : Schema) (dimensions : List (List DimensionRow)) (row : List cell.Value) (keys : List ℕ) (dimension count : ℕ) : Type 0 where
  pub all : count ≡ length schema.dimensions
  pub full : length keys ≡ 8
  pub found : (k : ℕ) → k < dimension → IfSome (foreign_key schema k row) (λ key. index_of (rows_in dimensions k) key ≡ Some (get_or keys k 0))
  pub others : (k : ℕ) → foreign_key schema k row ≡ None → get_or keys k 0 ≡ 0
  pub left : list_any (dangles_at schema dimensions row) (range_with_len dimension (count - dimension)) ≡ dangles schema dimensions row

-- a list of zeros has 0 at each place, and past its end
all_zero : (n k : ℕ) → get_or {A = ℕ} (replicate n 0) k 0 ≡ 0
all_zero zero k = refl
all_zero (suc n) zero = refl
all_zero (suc n) (suc k) = all_zero n k

pub IsKeyedTo-start : (schema : Schema) (dimensions : List (List DimensionRow)) (row : List cell.Value) (count : ℕ)
    → count ≡ length schema.dimensions → IsKeyedTo schema dimensions row (replicate 8 0) 0 count
IsKeyedTo-start schema dimensions row count all = record {
  all = all;
  full = refl;
  found = λ k low. absurd (omega arith);
  others = λ k none. all_zero 8 k;
  left = let same : count - 0 ≡ length schema.dimensions = omega arith in ap (λ n. list_any (dangles_at schema dimensions row) (range_with_len 0 n)) same;
}

-- the rows of the dimension at a place
rows_at : (dims : List (Roomy DimensionRow)) (dimension : ℕ) (entry : Roomy DimensionRow) → dimension < length dims → entry ≡ get_or dims dimension entry
    → entry.items ≡ rows_in (map (λ d. d.items) dims) dimension
rows_at dims dimension entry low is =
    ap (λ (d : Roomy DimensionRow). d.items) is ∙ sym (get_or-map (λ (d : Roomy DimensionRow). d.items) dims dimension entry [] low)

next : (p : ℕ → Bool) (low count : ℕ) → low < count
    → list_any p (range_with_len low (count - low)) ≡ (p low || list_any p (range_with_len (low + 1) (count - (low + 1))))
next p low count h =
    let more : count - low ≡ suc (count - (low + 1)) = omega arith in ap (λ n. list_any p (range_with_len low n)) more

-- a key of no row among those of the dimension
pub IsKeyedTo-dangles : (schema : Schema) (dims : List (Roomy DimensionRow)) (row : List cell.Value) (keys : List ℕ) (dimension count : ℕ)
    (entry : Roomy DimensionRow) (columns : List (Option ℕ))
    → IsKeyedTo schema (map (λ d. d.items) dims) row keys dimension count → dimension < count → length dims ≡ length schema.dimensions
    → AreReferences schema columns → entry ≡ get_or dims dimension entry
    → true ≡ option_map_or (λ key. is_none (index_of entry.items key)) (option_map (value_in row) (get_or columns dimension None)) false
    → true ≡ dangles schema (map (λ d. d.items) dims) row
IsKeyedTo-dangles schema dims row keys dimension count entry columns is low many references at missing =
    let all = is.all in
    let rows = rows_at dims dimension entry (omega arith) at in
    let column = references dimension (omega arith) in
    let dangling : dangles_at schema (map (λ d. d.items) dims) row dimension ≡ true =
    sym (ap (λ items. option_map_or (λ key. is_none (index_of items key)) (foreign_key schema dimension row) false) rows)
    ∙ sym (ap (λ c. option_map_or (λ key. is_none (index_of entry.items key)) (option_map (value_in row) c) false) column) ∙ sym missing in
    sym (ap (λ t. t || list_any (dangles_at schema (map (λ d. d.items) dims) row) (range_with_len (dimension + 1) (count - (dimension + 1)))) dangling)
    ∙ sym (next (dangles_at schema (map (λ d. d.items) dims) row) dimension count low) ∙ is.left

no_position : (row : List cell.Value) (found : Option ℕ) → option_map (value_in row) found ≡ None → found ≡ None
no_position row None none = refl
no_position row (Some place) none = cc

-- one dimension more
pub IsKeyedTo-next : (schema : Schema) (dims : List (Roomy DimensionRow)) (row : List cell.Value) (keys : List ℕ) (dimension count place : ℕ)
    (entry : Roomy DimensionRow) (columns : List (Option ℕ))
    → IsKeyedTo schema (map (λ d. d.items) dims) row keys dimension count → dimension < count → count ≤ 8 → length dims ≡ length schema.dimensions
    → AreReferences schema columns → entry ≡ get_or dims dimension entry
    → IfSome (option_map (value_in row) (get_or columns dimension None)) (λ key. index_of entry.items key ≡ Some place)
    → (get_or columns dimension None ≡ None → place ≡ 0)
    → false ≡ option_map_or (λ key. is_none (index_of entry.items key)) (option_map (value_in row) (get_or columns dimension None)) false
    → IsKeyedTo schema (map (λ d. d.items) dims) row (set keys dimension place) (dimension + 1) count
IsKeyedTo-next schema dims row keys dimension count place entry columns is low few many references at there other missing =
    let all = is.all in
    let full = is.full in
    let rows = rows_at dims dimension entry (omega arith) at in
    let column = references dimension (omega arith) in
    let kept : dangles_at schema (map (λ d. d.items) dims) row dimension ≡ false =
    sym (ap (λ items. option_map_or (λ key. is_none (index_of items key)) (foreign_key schema dimension row) false) rows)
    ∙ sym (ap (λ c. option_map_or (λ key. is_none (index_of entry.items key)) (option_map (value_in row) c) false) column) ∙ sym missing in
    let own : IfSome (foreign_key schema dimension row) (λ key. index_of (rows_in (map (λ d. d.items) dims) dimension) key ≡ Some place) =
    subst (λ items. IfSome (foreign_key schema dimension row) (λ key. index_of items key ≡ Some place)) rows
    (subst (λ c. IfSome (option_map (value_in row) c) (λ key. index_of entry.items key ≡ Some place)) column there) in record {
      all = is.all;
      full = length-set keys dimension place ∙ is.full;
      found = λ k before.
          ⊎_elim
          (λ early.
          subst (λ p. IfSome (foreign_key schema k row) (λ key. index_of (rows_in (map (λ d. d.items) dims) k) key ≡ Some p))
          (sym (get_or-set_other keys dimension k place 0 (λ same. absurd (omega arith)))) (is.found k early))
          (λ late.
          let same : dimension ≡ k = omega arith in
          subst (λ j. IfSome (foreign_key schema j row) (λ key. index_of (rows_in (map (λ d. d.items) dims) j) key ≡ Some (get_or (set keys dimension place) j 0))) same
          (subst (λ p. IfSome (foreign_key schema dimension row) (λ key. index_of (rows_in (map (λ d. d.items) dims) dimension) key ≡ Some p))
          (sym (get_or-set_same keys dimension place 0 (omega arith))) own))
          (cases_lt k dimension);
      others = λ k none.
          ⊎_elim
          (λ same.
          subst (λ j. get_or (set keys dimension place) j 0 ≡ 0) same
          (get_or-set_same keys dimension place 0 (omega arith)
          ∙ other (column ∙ no_position row _ (subst (λ j. foreign_key schema j row ≡ None) (sym same) none))))
          (λ apart. get_or-set_other keys dimension k place 0 (λ same. apart (sym same)) ∙ is.others k none)
          (cases_eq dimension k);
      left = ap (λ t. t || list_any (dangles_at schema (map (λ d. d.items) dims) row) (range_with_len (dimension + 1) (count - (dimension + 1)))) (sym kept)
          ∙ sym (next (dangles_at schema (map (λ d. d.items) dims) row) dimension count low) ∙ is.left;
    }

referenced_by : (target : Option ℕ) (dimension count : ℕ) (Key : ℕ → Type 0) → option_map_or (λ t. t == dimension) target false ≡ true
    → IfSome target (λ t. (t < count) × Key t) → dimension < count
referenced_by None dimension count Key e known = cc
referenced_by (Some target) dimension count Key e known =
    let same : target ≡ dimension = (Decides-eqb target dimension).0 e in
    let low = known.0 in omega arith

-- no column references what is no dimension
unreferenced : (schema : Schema) (dimension : ℕ) (columns : List ColumnDef) (found : Option ℕ) → position (references dimension) columns ≡ found
    → All (ReferencesAKey schema) columns → length schema.dimensions ≤ dimension → found ≡ None
unreferenced schema dimension columns None e known over = refl
unreferenced schema dimension [] (Some place) e known over = cc
unreferenced schema dimension (first ∷ columns) (Some place) e known over =
    let at = position-Some (references dimension) (first ∷ columns) place first e in
    let column = get_or (first ∷ columns) place first in
    let low = referenced_by column.target dimension (length schema.dimensions) (λ target. IsTrue (has_key_of schema column.kind target)) at.1
    (known place first at.0) in absurd (omega arith)

-- all dimensions
pub IsKeyedTo-all : (schema : Schema) (dimensions : List (List DimensionRow)) (row : List cell.Value) (keys : List ℕ) (dimension count : ℕ)
    → IsKeyedTo schema dimensions row keys dimension count → count ≤ dimension → IsDeclared schema
    → AreKeyNumbers schema dimensions row keys × (false ≡ dangles schema dimensions row)
IsKeyedTo-all schema dimensions row keys dimension count is over declared =
    let none : count - dimension ≡ 0 = omega arith in
    let all = is.all in (
      record {
        count = is.full;
        places = λ k.
            ⊎_elim (λ low. is.found k (omega arith))
            (λ high.
            let nothing : foreign_key schema k row ≡ None = ap (option_map (value_in row)) (unreferenced schema k (fact_columns schema) _ refl declared.references (omega arith)) in
            subst (λ key. IfSome key (λ key. index_of (rows_in dimensions k) key ≡ Some (get_or keys k 0))) (sym nothing) tt)
            (cases_lt k count);
        others = is.others;
      },
      ap (λ n. list_any (dangles_at schema dimensions row) (range_with_len dimension n)) (sym none) ∙ is.left,
    )
