-- The versions that a load makes of its rows, one after the other.
use Rattle.std.proofs.Common.{◌≡◌, ◌↔◌, ℕ, zero, suc, ◌+◌, ◌<◌, ◌≤◌, false, ◌||◌, List, [], ◌∷◌, ◌++◌, length, map, get_or, Option, Some, None, slice_get, IfSome, ap, sym, subst, ◌∙◌, arith}
use Rattle.std.specs.Prelude.{IsTrue}
use Rattle.std.specs.List.{All, list_any}
use Rattle.std.proofs.lemmas.List.{append-nil, length-map}
use Rattle.std.proofs.lemmas.List.Elements.{All-push}
use Rattle.star_values.specs.declared.value.Value as cell
use Rattle.star_values.specs.Value.{kind_of, kinds_in}
use Rattle.star_plan.specs.declared.column_def.ColumnDef.{ColumnDef}
use Rattle.star_plan.specs.declared.schema.Schema.{Schema}
use Rattle.star_plan.specs.declared.table_def.TableDef.{TableDef}
use Rattle.star_plan.specs.Columns.{fact_columns, kinds_of}
use Rattle.star_plan.specs.Fits.{fits_table}
use Rattle.fact_versions.specs.declared.version.Version.{Version}
use Rattle.dimension_rows.specs.declared.dimension_row.DimensionRow.{DimensionRow}
use Rattle.dimension_rows.specs.Keys.{index_of}
use Rattle.query_meaning.specs.Alone.{foreign_key}
use Rattle.query_meaning.specs.History.{versions_by}
use Rattle.query_meaning.specs.Keyed.{HasKeyNumbers, plain_version}
use Rattle.query_meaning.specs.Settled.{IsPlaceOf}
use Rattle.query_meaning.specs.Store.{rows_in}
use Rattle.star_store.specs.Loads.{dangles}
use Rattle.star_store.specs.Parts.{AreKeyNumbers}

-- rows fit the fact table, where there is one
abbrev pub AllFit : Schema → List (List cell.Value) → Type 0
AllFit schema rows = IfSome schema.fact (λ table. All (λ row. IsTrue (fits_table table row)) rows)

-- the versions that were made, and those of the rows that are left, are those of all rows; each has its key numbers; a
-- foreign key dangles where one of those that are left does; and there is room for the rows that are left
pub record AreMadeOf (schema : Schema) (dimensions : List (List DimensionRow)) (commit : ℕ) (rows left : List (List cell.Value)) (versions : List Version) (len room : ℕ) : Type 0 where
  pub made : map plain_version versions ++ versions_by commit left ≡ versions_by commit rows
  pub keyed : All (HasKeyNumbers schema dimensions) versions
  pub taken : list_any (dangles schema dimensions) left ≡ list_any (dangles schema dimensions) rows
  pub fit : AllFit schema left
  pub enough : len + length left ≤ room

pub AreMadeOf-start : (schema : Schema) (dimensions : List (List DimensionRow)) (commit : ℕ) (rows left : List (List cell.Value)) (versions : List Version) (len room : ℕ)
    → left ≡ rows → versions ≡ [] → len ≡ 0 → length rows ≤ room → AllFit schema rows
    → AreMadeOf schema dimensions commit rows left versions len room
AreMadeOf-start schema dimensions commit rows left versions len room all none empty enough fit = record {
  made = ap (λ vs. map plain_version vs ++ versions_by commit left) none ∙ ap (versions_by commit) all;
  keyed = λ k d low. let nothing = ap length none in absurd (omega arith);
  taken = ap (list_any (dangles schema dimensions)) all;
  fit = subst (AllFit schema) (sym all) fit;
  enough = let same = ap length all in omega arith;
}

-- there is room for the next version
pub AreMadeOf-room : (schema : Schema) (dimensions : List (List DimensionRow)) (commit : ℕ) (rows left more : List (List cell.Value)) (row : List cell.Value)
    (versions : List Version) (len room : ℕ)
    → AreMadeOf schema dimensions commit rows left versions len room → left ≡ row ∷ more → len < room
AreMadeOf-room schema dimensions commit rows left more row versions len room is next =
    let enough = is.enough in
    let one = ap length next in omega arith

head_fits : (fact : Option TableDef) (row : List cell.Value) (more : List (List cell.Value)) → IfSome fact (λ table. All (λ r. IsTrue (fits_table table r)) (row ∷ more))
    → IfSome fact (λ table. IsTrue (fits_table table row))
head_fits None row more fit = tt
head_fits (Some table) row more fit = fit 0 row (omega arith)

tail_fits : (fact : Option TableDef) (row : List cell.Value) (more : List (List cell.Value)) → IfSome fact (λ table. All (λ r. IsTrue (fits_table table r)) (row ∷ more))
    → IfSome fact (λ table. All (λ r. IsTrue (fits_table table r)) more)
tail_fits None row more fit = tt
tail_fits (Some table) row more fit = λ k d low. fit (suc k) d (omega arith)

abbrev KindsLaw : Type 0
KindsLaw = (table : TableDef) (row : List cell.Value) → IsTrue (fits_table table row) ↔ (kinds_in row ≡ kinds_of table.columns)

wide_by : (dimensions : List TableDef) (fact : Option TableDef) (row : List cell.Value) → KindsLaw → IfSome fact (λ table. IsTrue (fits_table table row))
    → length (fact_columns (record { dimensions = dimensions; fact = fact })) ≤ length row
wide_by dimensions None row law fit = omega arith
wide_by dimensions (Some table) row law fit =
    let same = ap length ((law table row).0 fit) in
    let values = length-map row kind_of in
    let columns = length-map table.columns (λ (column : ColumnDef). column.kind) in omega arith

-- the next row has a value in each column
pub AreMadeOf-wide : (schema : Schema) (dimensions : List (List DimensionRow)) (commit : ℕ) (rows left more : List (List cell.Value)) (row : List cell.Value)
    (versions : List Version) (len room : ℕ)
    → KindsLaw → AreMadeOf schema dimensions commit rows left versions len room → left ≡ row ∷ more → length (fact_columns schema) ≤ length row
AreMadeOf-wide schema dimensions commit rows left more row versions len room law is next =
    wide_by schema.dimensions schema.fact row law (head_fits schema.fact row more (subst (AllFit schema) next is.fit))

loaded_at : (rows : List DimensionRow) (place commit : ℕ) → All (λ entry. entry.commit ≤ commit) rows → IfSome (slice_get rows place) (λ entry. entry.commit ≤ commit)
loaded_at [] place commit all = tt
loaded_at (entry ∷ rows) zero commit all = all 0 entry (omega arith)
loaded_at (entry ∷ rows) (suc place) commit all = loaded_at rows place commit (λ k d low. all (suc k) d (omega arith))

placed : (rows : List DimensionRow) (key : Option cell.Value) (commit place : ℕ) → All (λ entry. entry.commit ≤ commit) rows
    → IfSome key (λ k. index_of rows k ≡ Some place) → IfSome key (λ k. IsPlaceOf rows k commit place)
placed rows None commit place all at = tt
placed rows (Some key) commit place all at = record { found = at; loaded = loaded_at rows place commit all }

-- one row more
pub AreMadeOf-next : (schema : Schema) (dimensions : List (List DimensionRow)) (commit : ℕ) (rows left more : List (List cell.Value)) (row : List cell.Value)
    (versions : List Version) (version : Version) (len room : ℕ)
    → AreMadeOf schema dimensions commit rows left versions len room → left ≡ row ∷ more
    → plain_version version ≡ record { row = row; begin = commit; end = 0 }
    → AreKeyNumbers schema dimensions version.row version.keys → version.begin ≡ commit → false ≡ dangles schema dimensions row
    → ((dimension : ℕ) → All (λ entry. entry.commit ≤ commit) (rows_in dimensions dimension))
    → AreMadeOf schema dimensions commit rows more (versions ++ version ∷ []) (len + 1) room
AreMadeOf-next schema dimensions commit rows left more row versions version len room is next plain numbers begun kept loaded = record {
  made =
      moved versions version row plain
      ∙ ap (λ xs. map plain_version versions ++ versions_by commit xs) (sym next) ∙ is.made;
  keyed =
      All-push (HasKeyNumbers schema dimensions) versions version is.keyed
      (record {
        count = numbers.count;
        places = λ dimension.
            placed (rows_in dimensions dimension) (foreign_key schema dimension version.row) version.begin (get_or version.keys dimension 0)
            (subst (λ c. All (λ entry. entry.commit ≤ c) (rows_in dimensions dimension)) (sym begun) (loaded dimension)) (numbers.places dimension);
        others = numbers.others;
      });
  taken =
      ap (λ t. t || list_any (dangles schema dimensions) more) kept
      ∙ sym (ap (list_any (dangles schema dimensions)) next) ∙ is.taken;
  fit = tail_fits schema.fact row more (subst (AllFit schema) next is.fit);
  enough =
      let enough = is.enough in
      let one = ap length next in omega arith;
}
  where
    moved : (vs : List Version) (v : Version) (r : List cell.Value) → plain_version v ≡ record { row = r; begin = commit; end = 0 }
        → map plain_version (vs ++ v ∷ []) ++ versions_by commit more ≡ map plain_version vs ++ versions_by commit (r ∷ more)
    moved [] v r e = ap (λ p. p ∷ versions_by commit more) e
    moved (first ∷ vs) v r e = ap (λ ps. plain_version first ∷ ps) (moved vs v r e)

-- all rows
pub AreMadeOf-all : (schema : Schema) (dimensions : List (List DimensionRow)) (commit : ℕ) (rows left : List (List cell.Value)) (versions : List Version) (len room : ℕ)
    → AreMadeOf schema dimensions commit rows left versions len room → left ≡ []
    → (map plain_version versions ≡ versions_by commit rows) × (list_any (dangles schema dimensions) rows ≡ false)
AreMadeOf-all schema dimensions commit rows left versions len room is none = (
  sym (append-nil (map plain_version versions)) ∙ ap (λ xs. map plain_version versions ++ versions_by commit xs) (sym none) ∙ is.made,
  sym is.taken ∙ ap (list_any (dangles schema dimensions)) none,
)
