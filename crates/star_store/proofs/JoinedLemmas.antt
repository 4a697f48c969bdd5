-- The rows that a query alone joins are joined by their keys, so that its WHERE as it is written holds on them exactly where
-- the query keeps them.
use Rattle.std.proofs.Common.{◌≡◌, ℕ, ◌<◌, Bool, true, false, cond, ◌==◌, nat_le, List, [], ◌∷◌, length, map, get_or, Option, Some, None, Result, Ok, Err, slice_get, slice_index_or, pos, refl, ap, sym, subst, ◌∙◌, ⊎_elim, arith}
use Rattle.std.specs.Prelude.{All, Contains, IfOk, IfSome, IsTrue, option_map, if◌then◌else◌}
use Rattle.std.specs.List.{count_by, filter, find, list_any, position, position_or_len, range_with_len}
use Rattle.std.specs.Option.{option_map_or}
use Rattle.std.specs.Cmp.{Equal-is}
use Rattle.std.proofs.lemmas.Bool.{cases_lt, eqb-true}
use Rattle.std.proofs.lemmas.Bool.Decides.{Decides-eqb}
use Rattle.std.proofs.lemmas.List.Elements.{All-contains_itself, All-head, All-tail}
use Rattle.std.proofs.lemmas.List.Folds.{list_any-from_Any}
use Rattle.std.proofs.lemmas.List.FromFn.{get_or-map-range_with_len, length-map-range_with_len}
use Rattle.std.proofs.lemmas.List.Quantifiers.{position-Some}
use Rattle.std.proofs.lemmas.List.Sums.{length-filter}
use Rattle.std.proofs.lemmas.Option.{get_or_from_slice_get, slice_get-get_or, slice_get_within}
use Rattle.star_values.specs.OrderLaws.{value_cmp-equal}
use Rattle.star_values.specs.Value.{value_cmp}
use Rattle.star_values.specs.declared.refusal.Refusal.{Refusal}
use Rattle.star_values.specs.declared.refusal.Refusal.TheVariants as refusal
use Rattle.star_values.specs.declared.value.Value.{Value}
use Rattle.star_values.specs.declared.value.Value.TheVariants.{Int}
use Rattle.star_plan.specs.Columns.{fact_columns, same_table}
use Rattle.star_plan.specs.Joined.{Joined, is_kept, kept_of}
use Rattle.star_plan.specs.Over.{is_named}
use Rattle.star_plan.specs.Row.{value_in}
use Rattle.star_plan.specs.Test as plan
use Rattle.star_plan.specs.Test.{Query, Unnamed}
use Rattle.star_plan.specs.declared.column_def.ColumnDef.{ColumnDef}
use Rattle.star_plan.specs.declared.schema.Schema.{Schema}
use Rattle.star_plan.specs.declared.table.Table.TheVariants.{Dimension}
use Rattle.star_plan.specs.Declaration as declaration
use Rattle.star_plan.specs.Schemas.{IsDeclared}
use Rattle.star_binder.specs.Bound.{named_selection, query_in, selection_on, test_on}
use Rattle.star_binder.specs.Conjuncts.{references}
use Rattle.star_binder.specs.Refused.{bound_over, bound_select, from_tables}
use Rattle.star_binder.specs.Scope.{TablesInScope}
use Rattle.star_binder.specs.Select.{SelectParts}
use Rattle.star_binder.specs.Where.{IsJoinedByKeys}
use Rattle.dimension_rows.specs.Keys.{has_key, is_key, key_of}
use Rattle.dimension_rows.specs.declared.dimension_row.DimensionRow.{DimensionRow}
use Rattle.query_meaning.specs.Alone.{foreign_key, is_matched, joined, joined_row, kept, names, row_of_key, visible, visible_rows}
use Rattle.query_meaning.specs.Settled.{IsSettled}
use Rattle.query_meaning.specs.Store.{PlainVersion, Store, rows_in}
use Rattle.query_meaning.proofs.FoundLemmas.{position_there, second_true}

-- The query of a select is the one over the tables that it names.

record IsOnly (query : Query) (found : Result Query Refusal) : Type 0 where
  only : IfOk found (λ other. other ≡ query)

unless : (query : Query) (test : Bool) (why : Refusal) (rest : Result Query Refusal) → IsOnly query rest
    → IsOnly query (if test then Err why else rest)
unless query true why rest is = record { only = tt }
unless query false why rest is = is

itself : (query : Query) → IsOnly query (Ok query)
itself query = record { only = refl }

over-only : (scope : TablesInScope) (select : SelectParts) → IsOnly (query_in scope select) (bound_over scope select)
over-only scope select =
    let query = query_in scope select in
    unless query _ refusal.DuplicateName _ (unless query _ refusal.UnknownName _ (unless query _ refusal.Limit _ (unless query _ refusal.AmbiguousName _
    (unless query _ refusal.TypeMismatch _ (unless query _ refusal.MissingJoin _ (unless query _ refusal.MixedConjunct _
    (unless query _ refusal.NotGrouped _ (itself query))))))))

query-bound : (schema : Schema) (select : SelectParts) (query : Query) → bound_select schema select ≡ Ok query
    → query ≡ query_in (from_tables schema select.names) select
unfolding bound_select
query-bound schema select query e =
    let scope = from_tables schema select.names in
    subst (λ found. IfOk found (λ other. other ≡ query_in scope select)) e (over-only scope select).only

-- It names each dimension among its tables.

made-at : {X : Type 0} (f : ℕ → X) (count place : ℕ) → place < count → slice_get (map f (range_with_len 0 count)) place ≡ Some (f place)
made-at f count place low =
    slice_get-get_or (map f (range_with_len 0 count)) place (f place) (omega (arith, length-map-range_with_len f 0 count))
    ∙ ap Some (get_or-map-range_with_len f 0 count place place (f place) low (omega arith))

selection-named : (there : Bool) (test : Option plan.Test) → there ≡ true → is_named (if there then named_selection test else Unnamed) ≡ true
selection-named true None is = refl
selection-named true (Some test) is = refl
selection-named false test is = cc

same-itself : (dimension : ℕ) → same_table (Dimension dimension) (Dimension dimension) ≡ true
same-itself dimension = (Decides-eqb dimension dimension).1 refl

query-names : (scope : TablesInScope) (select : SelectParts) (dimension : ℕ) → dimension < length scope.schema.dimensions
    → Contains scope.tables (Dimension dimension) → names (query_in scope select) dimension ≡ true
query-names scope select dimension low listed =
    let there : list_any (same_table (Dimension dimension)) scope.tables ≡ true =
    list_any-from_Any (same_table (Dimension dimension)) scope.tables (listed.0, Dimension dimension, listed.1, listed.2, same-itself dimension) in
    ap (λ selection. option_map_or is_named selection false) (made-at (selection_on scope select.conjuncts) (length scope.schema.dimensions) dimension low)
    ∙ selection-named (list_any (same_table (Dimension dimension)) scope.tables) (test_on scope select.conjuncts (Dimension dimension)) there

-- One column references a dimension, and the foreign key is the value there.

target-is : (target : Option ℕ) (dimension : ℕ) → option_map_or (λ number. number == dimension) target false ≡ true → target ≡ Some dimension
target-is None dimension is = cc
target-is (Some number) dimension is = ap Some (eqb-true number dimension is)

-- the column of the fact table that references a dimension
record IsReference (schema : Schema) (column dimension : ℕ) : Type 0 where
  defined : ColumnDef
  low : column < length (fact_columns schema)
  target : (d : ColumnDef) → (get_or (fact_columns schema) column d).target ≡ Some dimension

reference-at : (schema : Schema) (column dimension : ℕ) → references schema column dimension ≡ true → IsReference schema column dimension
reference-at schema column dimension is = by (slice_get (fact_columns schema) column) refl is
  where
    by : (found : Option ColumnDef) → slice_get (fact_columns schema) column ≡ found
        → option_map_or (λ (defined : ColumnDef). option_map_or (λ target. target == dimension) defined.target false) found false ≡ true
        → IsReference schema column dimension
    by None at is = cc
    by (Some defined) at is = record {
      defined = defined;
      low = slice_get_within (fact_columns schema) column defined at;
      target = λ d. ap (λ (c : ColumnDef). c.target) (get_or_from_slice_get (fact_columns schema) column defined d at)
          ∙ target-is defined.target dimension is;
    }

same-reference : (schema : Schema) (column other dimension : ℕ) → IsDeclared schema → IsReference schema column dimension
    → IsReference schema other dimension → other ≡ column
same-reference schema column other dimension declared here there =
    ⊎_elim (λ less. absurd (declared.apart column other here.defined less there.low dimension (here.target here.defined) (there.target here.defined)))
    (λ most. ⊎_elim (λ less. absurd (declared.apart other column here.defined less here.low dimension (there.target here.defined) (here.target here.defined)))
    (λ least. omega arith) (cases_lt other column)) (cases_lt column other)

dimension-declared : (schema : Schema) (column dimension : ℕ) → IsDeclared schema → IsReference schema column dimension
    → dimension < length schema.dimensions
dimension-declared schema column dimension declared here =
    (subst (λ (target : Option ℕ). IfSome target (λ d. (d < length schema.dimensions)
    × IsTrue (declaration.has_key_of schema (get_or (fact_columns schema) column here.defined).kind d)))
    (here.target here.defined) (declared.references column here.defined here.low)).0

references-column : (dimension : ℕ) (column : ColumnDef) → column.target ≡ Some dimension → declaration.references dimension column ≡ true
references-column dimension column e =
    ap (λ target. option_map_or (λ t. t == dimension) target false) e ∙ (Decides-eqb dimension dimension).1 refl

-- the foreign key of a row for a dimension is its value in the column that references it
key-there : (schema : Schema) (column dimension : ℕ) (row : List Value) → IsDeclared schema → IsReference schema column dimension
    → foreign_key schema dimension row ≡ Some (value_in row column)
key-there schema column dimension row declared here =
    let test = declaration.references dimension in
    let columns = fact_columns schema in
    let place = position_or_len test columns in
    let found : position test columns ≡ Some place =
    position_there test columns column here.defined here.low
    (references-column dimension (get_or columns column here.defined) (here.target here.defined)) in
    let first : IsReference schema place dimension = record {
      defined = here.defined;
      low = (position-Some test columns place here.defined found).0;
      target = λ d. target-is (get_or columns place d).target dimension (position-Some test columns place d found).1;
    } in
    ap (option_map (value_in row)) found ∙ ap (λ at. Some (value_in row at)) (same-reference schema column place dimension declared here first)

-- The row of a key.

abbrev Finds : {X : Type 0} → (X → Bool) → Option X → Type 0
Finds {X} p found = (x : X) × (found ≡ Some x) × (p x ≡ true)

found-one : {X : Type 0} (p : X → Bool) (xs : List X) → length (filter p xs) ≡ 1 → Finds p (find p xs)
found-one p [] one = absurd (omega arith)
found-one p (x ∷ xs) one = by p x xs (p x) refl one (found-one p xs)
  where
    by : {X : Type 0} (p : X → Bool) (x : X) (xs : List X) (passes : Bool) → p x ≡ passes → length (cond passes (x ∷ filter p xs) (filter p xs)) ≡ 1
        → (length (filter p xs) ≡ 1 → Finds p (find p xs)) → Finds p (cond passes (Some x) (find p xs))
    by p x xs true is one later = (x, refl, is)
    by p x xs false is one later = later one

key-first : (key : Value) (row : List Value) → is_key key (key_of row) ≡ true → value_in row 0 ≡ key
key-first key row is = by (key_of row) refl is
  where
    by : (found : Option Value) → slice_get row 0 ≡ found → is_key key found ≡ true → value_in row 0 ≡ key
    by None at is = cc
    by (Some other) at is =
        get_or_from_slice_get row 0 other (Int (pos 0)) at ∙ (value_cmp-equal other key).0 ((Equal-is (value_cmp other key)).0 is)

-- one row of a dimension has the key of a version that is seen
abbrev pub OneRowJoins : Type 0
OneRowJoins = (store : Store) (snapshot dimension : ℕ) (version : PlainVersion) (key : Value) → IsSettled store
    → Contains (visible store snapshot) version → foreign_key store.schema dimension version.row ≡ Some key
    → count_by (is_matched snapshot key) (rows_in store.dimensions dimension) ≡ 1

row-joined : OneRowJoins → (store : Store) (snapshot column dimension : ℕ) (version : PlainVersion) → IsSettled store
    → Contains (visible store snapshot) version → IsReference store.schema column dimension
    → value_in (joined_row store snapshot version.row dimension) 0 ≡ value_in version.row column
row-joined one store snapshot column dimension version settled seen here =
    let rows = rows_in store.dimensions dimension in
    let key = value_in version.row column in
    let is = key-there store.schema column dimension version.row settled.declared here in
    let found = found-one (is_matched snapshot key) rows
    (length-filter (is_matched snapshot key) rows ∙ one store snapshot dimension version key settled seen is) in
    ap (λ its. value_in (option_map_or (row_of_key rows snapshot) its []) 0) is
    ∙ ap (λ entry. value_in (option_map_or (λ (e : DimensionRow). e.row) entry []) 0) found.1
    ∙ key-first key found.0.row (second_true (nat_le found.0.commit snapshot) (has_key key found.0) found.2)

-- Joined rows.

-- a query has a choice for each dimension, and names each dimension among its tables
record NamesTables (scope : TablesInScope) (query : Query) : Type 0 where
  choices : length query.choices ≡ length scope.schema.dimensions
  named : (dimension : ℕ) → dimension < length scope.schema.dimensions → Contains scope.tables (Dimension dimension)
      → names query dimension ≡ true

query-tables : (scope : TablesInScope) (select : SelectParts) → NamesTables scope (query_in scope select)
query-tables scope select = record {
  choices = length-map-range_with_len (selection_on scope select.conjuncts) 0 (length scope.schema.dimensions);
  named = query-names scope select;
}

row-named : (is : Bool) (row : List Value) → is ≡ true → (if is then row else []) ≡ row
row-named true row e = refl
row-named false row e = cc

joined-by-keys : OneRowJoins → (store : Store) (from : List (List ℕ)) (query : Query) (snapshot : ℕ) (version : PlainVersion) → IsSettled store
    → NamesTables (from_tables store.schema from) query → Contains (visible store snapshot) version
    → IsJoinedByKeys (from_tables store.schema from) (joined store query snapshot version.row)
joined-by-keys one store from query snapshot version settled tables seen =
    let row_of : ℕ → List Value = λ dimension. if names query dimension then joined_row store snapshot version.row dimension else [] in record {
      rows = length-map-range_with_len row_of 0 (length query.choices) ∙ tables.choices;
      keys = λ column dimension refers listed.
          let here = reference-at store.schema column dimension refers in
          let low = dimension-declared store.schema column dimension settled.declared here in
          sym (row-joined one store snapshot column dimension version settled seen here)
          ∙ ap (λ row. value_in row 0) (sym (get_or-map-range_with_len row_of 0 (length query.choices) dimension dimension []
          (omega (arith, low, tables.choices)) (omega arith)
          ∙ row-named (names query dimension) (joined_row store snapshot version.row dimension) (tables.named dimension low listed)));
    }

pub select-joined : OneRowJoins → (store : Store) (select : SelectParts) (query : Query) (snapshot : ℕ) (version : PlainVersion) → IsSettled store
    → bound_select store.schema select ≡ Ok query → Contains (visible store snapshot) version
    → IsJoinedByKeys (from_tables store.schema select.names) (joined store query snapshot version.row)
select-joined one store select query snapshot version settled bound seen =
    let scope = from_tables store.schema select.names in
    joined-by-keys one store select.names query snapshot version settled
    (subst (NamesTables scope) (sym (query-bound store.schema select query bound)) (query-tables scope select)) seen

-- So a query keeps those of its joined rows on which a test holds that says the same of each.

same-kept : (p q : Joined → Bool) (f : List Value → Joined) (versions : List PlainVersion) → All (λ (v : PlainVersion). p (f v.row) ≡ q (f v.row)) versions
    → filter p (map f (map (λ (v : PlainVersion). v.row) versions)) ≡ filter q (map f (map (λ (v : PlainVersion). v.row) versions))
same-kept p q f [] same = refl
same-kept p q f (version ∷ versions) same =
    let P : PlainVersion → Type 0 = λ v. p (f v.row) ≡ q (f v.row) in
    let here = All-head P version versions same in
    let rest = same-kept p q f versions (All-tail P version versions same) in
    λ i. cond (here i) (f version.row ∷ rest i) (rest i)

pub kept-where : (store : Store) (query : Query) (snapshot : ℕ) (holds : Joined → Bool)
    → ((version : PlainVersion) → Contains (visible store snapshot) version
    → holds (joined store query snapshot version.row) ≡ is_kept query (joined store query snapshot version.row))
    → kept store query snapshot ≡ filter holds (map (joined store query snapshot) (visible_rows store snapshot))
unfolding kept_of
kept-where store query snapshot holds same =
    same-kept (is_kept query) holds (joined store query snapshot) (visible store snapshot)
    (λ k d low. sym (same (slice_index_or (visible store snapshot) k d) (All-contains_itself (visible store snapshot) k d low)))
