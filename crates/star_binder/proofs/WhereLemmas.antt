-- The WHERE as it is written holds on a joined row exactly where the query that is bound keeps the row.
use Rattle.std.proofs.Common.{◌≡◌, ◌↔◌, ℕ, zero, suc, ◌<◌, ◌≤◌, ◌⊎◌, inl, inr, Bool, true, false, cond, not, ◌||◌, ◌&&◌, ◌==◌, List, [], ◌∷◌, ◌++◌, map, length, get_or, slice_get, Option, Some, None, is_none, Ok, refl, ap, sym, ◌∙◌, subst, arith, eqb-true, eq-eqb}
use Rattle.std.specs.Prelude.{IsTrue}
use Rattle.std.specs.List.{All, Contains, filter, filter_map, flat_map, list_all, list_any}
use Rattle.std.proofs.lemmas.List.FromFn.{length-map-range_with_len}
use Rattle.std.specs.Option.{option_map_or}
use Rattle.std.specs.Ordering.{is_eq}
use Rattle.std.specs.declared.cmp.Ordering.TheVariants.{Equal}
use Rattle.std.proofs.lemmas.Bool.{and_from, and_parts, not-false, or_parts}
use Rattle.std.proofs.lemmas.List.Elements.{All-cons, All-head, All-nil, All-tail}
use Rattle.std.proofs.lemmas.Option.{slice_get-get_or}
use Rattle.star_values.specs.declared.value.Value.{Value}
use Rattle.star_values.specs.Value.{value_cmp}
use Rattle.star_parser.specs.declared.ast.AstItem.{AstItem}
use Rattle.star_parser.specs.declared.tree.Column.{Column}
use Rattle.star_parser.specs.Condition.{Condition, Conditions, Either, Both, Negate, Test, Same, Between, OneOf, none, more, conjuncts, members}
use Rattle.star_plan.specs.Columns.{same_table}
use Rattle.star_plan.specs.Joined.{Joined, dimension_of, is_kept, takes, takes_at, value_at}
use Rattle.star_plan.specs.Row.{value_in}
use Rattle.star_plan.specs.Test as plan
use Rattle.star_plan.specs.Test.{Query, Selection}
use Rattle.star_plan.specs.Truth.{all_hold, compares, passes, some_holds, test_holds}
use Rattle.star_plan.specs.declared.place.Place.{Place}
use Rattle.star_plan.specs.declared.place.Place.TheVariants as place
use Rattle.star_plan.specs.declared.predicate.How.TheVariants.{Eq, Ge, Le}
use Rattle.star_plan.specs.declared.schema.Schema.{Schema}
use Rattle.star_plan.specs.declared.table.Table.{Table}
use Rattle.star_plan.specs.declared.table.Table.TheVariants.{Fact, Dimension}
use Rattle.star_binder.specs.Bound.{all_of, bound_test, bound_tests, how_of, named_selection, number_of, query_in, selection_on, test_on}
use Rattle.star_binder.specs.Conjuncts.{first_table, has_another, is_mixed, is_on, joined_by_key, joined_dimension, key_join, references, tables_in}
use Rattle.star_binder.specs.Named.{column_of_item, columns_in, columns_in_all, compares_columns, some_compares_columns, where_conjuncts}
use Rattle.star_binder.specs.Places.{is_unknown, number_at, place_of, table_at, table_of}
use Rattle.star_binder.specs.Refused.{bound_delete, bound_select, fact_alone, from_tables}
use Rattle.star_binder.specs.Scope.{TablesInScope}
use Rattle.star_binder.specs.Select.{SelectParts, select_of}
use Rattle.star_binder.specs.Where.{IsJoinedByKeys, all_of_where, column_value, some_of_where, where_holds, whole_where_holds}
use Rattle.star_binder.proofs.ListLemmas.{All-fails, list_any-passes, list_any_lone, list_any_mapped_parts, list_any_parts, slice_get-made}
use Rattle.star_binder.proofs.FitsLemmas.{none_is_another, same_table-true}
use Rattle.star_binder.proofs.OverLemmas.{accepted, accepted_delete}
use Rattle.star_binder.proofs.PlaceLemmas.{Stands, dimension-Stands, place_of-Stands}

-- the row of a table in a joined row
abbrev row_of : Table → Joined → List Value
row_of Fact row = row.fact
row_of (Dimension dimension) row = dimension_of row dimension

-- the value at a place is that in its column of the row of its table
value_at-row : (at : Place) (row : Joined) → value_at at row ≡ value_in (row_of (table_at at) row) (number_at at)
value_at-row (place.Fact column) row = refl
value_at-row (place.Dimension dimension column) row = refl

and_true : (b : Bool) → (b && true) ≡ b
and_true true = refl
and_true false = refl

all_hold-list : (row : List Value) (ts : List plan.Test) → all_hold row (plan.tests ts) ≡ list_all (test_holds row) ts
all_hold-list row [] = refl
all_hold-list row (t ∷ ts) = ap (λ held. test_holds row t && held) (all_hold-list row ts)

-- several tests as one hold where each does
passes-all_of : (row : List Value) (ts : List plan.Test) → passes (all_of ts) row ≡ list_all (test_holds row) ts
passes-all_of row [] = refl
passes-all_of row (t ∷ []) = sym (and_true (test_holds row t))
passes-all_of row (t ∷ u ∷ ts) = all_hold-list row (t ∷ u ∷ ts)

-- whether a condition is not on a table, or its test holds on the table's row
abbrev is_met : TablesInScope → Table → List Value → Condition → Bool
is_met scope table row t = not (is_on scope table t) || test_holds row (bound_test scope t)

met_by : (on held rest : Bool) (ts : List plan.Test) (row : List Value) (t : plan.Test) → test_holds row t ≡ held → list_all (test_holds row) ts ≡ rest
    → list_all (test_holds row) (cond on (t ∷ ts) ts) ≡ ((not on || held) && rest)
met_by true held rest ts row t e f = ap (λ h. h && list_all (test_holds row) ts) e ∙ ap (λ r. held && r) f
met_by false held rest ts row t e f = f

map_cond : (scope : TablesInScope) (on : Bool) (t : Condition) (ts : List Condition)
    → map (bound_test scope) (cond on (t ∷ ts) ts) ≡ cond on (bound_test scope t ∷ map (bound_test scope) ts) (map (bound_test scope) ts)
map_cond scope true t ts = refl
map_cond scope false t ts = refl

on-met : (scope : TablesInScope) (table : Table) (row : List Value) (cs : List Condition)
    → list_all (test_holds row) (map (bound_test scope) (filter (is_on scope table) cs)) ≡ list_all (is_met scope table row) cs
on-met scope table row [] = refl
on-met scope table row (t ∷ cs) =
    ap (list_all (test_holds row)) (map_cond scope (is_on scope table t) t (filter (is_on scope table) cs))
    ∙ met_by (is_on scope table t) (test_holds row (bound_test scope t)) (list_all (is_met scope table row) cs)
    (map (bound_test scope) (filter (is_on scope table) cs)) row (bound_test scope t) refl (on-met scope table row cs)

-- the test on a table holds where each conjunct on it does
test_on-met : (scope : TablesInScope) (cs : List Condition) (table : Table) (row : List Value)
    → passes (test_on scope cs table) row ≡ list_all (is_met scope table row) cs
test_on-met scope cs table row =
    passes-all_of row (map (bound_test scope) (filter (is_on scope table) cs)) ∙ on-met scope table row cs

each_true : {X : Type 0} (p : X → Bool) (xs : List X) → list_all p xs ≡ true → All (λ x. p x ≡ true) xs
each_true p [] h = All-nil (λ x. p x ≡ true)
each_true p (x ∷ xs) h =
    let two = and_parts (p x) (list_all p xs) h in All-cons (λ y. p y ≡ true) x xs two.0 (each_true p xs two.1)

all_true : {X : Type 0} (p : X → Bool) (xs : List X) → All (λ x. p x ≡ true) xs → list_all p xs ≡ true
all_true p [] h = refl
all_true p (x ∷ xs) h = and_from (p x) (list_all p xs) (All-head (λ y. p y ≡ true) x xs h) (all_true p xs (All-tail (λ y. p y ≡ true) x xs h))

module _ (scope : TablesInScope) (row : Joined) (table : Table) where
  abbrev is_other : Table → Bool
  is_other other = not (same_table table other)

  -- a column of this table has its value in the table's row
  value-here : (column : Column) → is_other (table_of scope column) ≡ false → column_value scope row column ≡ value_in (row_of table row) (number_of scope column)
  value-here column h =
      value_at-row (place_of scope column) row
      ∙ ap (λ t. value_in (row_of t row) (number_of scope column)) (sym (same_table-true table (table_of scope column) (not-false (same_table table (table_of scope column)) h)))

  list_any-value : (values : List Value) (one other : Value) → one ≡ other → list_any (compares Eq one) values ≡ list_any (compares Eq other) values
  list_any-value values one other e = ap (λ v. list_any (compares Eq v) values) e

  mutual
    -- a condition that compares no columns, and whose columns are all of this table, holds where its test does on the table's row
    holds-bound : (t : Condition) → compares_columns t ≡ false → list_any is_other (map (table_of scope) (columns_in t)) ≡ false
        → where_holds scope row t ≡ test_holds (row_of table row) (bound_test scope t)
    holds-bound (Either ts) k h = some-bound ts k h
    holds-bound (Both ts) k h = all-bound ts k h
    holds-bound (Negate t) k h = ap not (holds-bound t k h)
    holds-bound (Test column how value) k h =
        ap (λ v. compares (how_of how) v value) (value-here column (list_any_lone is_other (table_of scope column) h))
    holds-bound (Same left right) k h = cc
    holds-bound (Between column low high) k h =
        ap (λ v. compares Ge v low && compares Le v high) (value-here column (list_any_lone is_other (table_of scope column) h))
    holds-bound (OneOf column values) k h =
        list_any-value values _ _ (value-here column (list_any_lone is_other (table_of scope column) h))

    all-bound : (ts : Conditions) → some_compares_columns ts ≡ false → list_any is_other (map (table_of scope) (columns_in_all ts)) ≡ false
        → all_of_where scope row ts ≡ all_hold (row_of table row) (bound_tests scope ts)
    all-bound none k h = refl
    all-bound (more t ts) k h =
        let two = or_parts (compares_columns t) (some_compares_columns ts) k in
        let places = list_any_mapped_parts is_other (table_of scope) (columns_in t) (columns_in_all ts) h in
        ap (λ held. held && all_of_where scope row ts) (holds-bound t two.0 places.0)
        ∙ ap (λ rest. test_holds (row_of table row) (bound_test scope t) && rest) (all-bound ts two.1 places.1)

    some-bound : (ts : Conditions) → some_compares_columns ts ≡ false → list_any is_other (map (table_of scope) (columns_in_all ts)) ≡ false
        → some_of_where scope row ts ≡ some_holds (row_of table row) (bound_tests scope ts)
    some-bound none k h = refl
    some-bound (more t ts) k h =
        let two = or_parts (compares_columns t) (some_compares_columns ts) k in
        let places = list_any_mapped_parts is_other (table_of scope) (columns_in t) (columns_in_all ts) h in
        ap (λ held. held || some_of_where scope row ts) (holds-bound t two.0 places.0)
        ∙ ap (λ rest. test_holds (row_of table row) (bound_test scope t) || rest) (some-bound ts two.1 places.1)

  unmixed_parts : (unjoined compares another : Bool) → (unjoined && (compares || another)) ≡ false → unjoined ≡ true → (compares ≡ false) × (another ≡ false)
  unmixed_parts true true another h e = cc
  unmixed_parts true false another h e = (refl, h)
  unmixed_parts false compares another h e = cc

  -- a conjunct on this table holds where its test does on the table's row
  holds-on : (t : Condition) → is_mixed scope t ≡ false → is_on scope table t ≡ true → where_holds scope row t ≡ test_holds (row_of table row) (bound_test scope t)
  holds-on t m h =
      let two = and_parts (is_none (key_join scope t)) (same_table table (first_table scope t)) h in
      let parts = unmixed_parts (is_none (key_join scope t)) (compares_columns t) (has_another (tables_in scope t)) m two.0 in
      holds-bound t parts.0 (none_is_another table (tables_in scope t) two.1 parts.1)

-- the columns of each conjunct are known where those of all are
each_known : (p : Column → Bool) (cs : List Condition) → list_any p (flat_map columns_in cs) ≡ false → All (λ t. list_any p (columns_in t) ≡ false) cs
each_known p [] h = All-nil (λ t. list_any p (columns_in t) ≡ false)
each_known p (t ∷ cs) h =
    let two = list_any_parts p (columns_in t) (flat_map columns_in cs) h in
    All-cons (λ t. list_any p (columns_in t) ≡ false) t cs two.0 (each_known p cs two.1)

same_from : (a b : Bool) → (a ≡ true → b ≡ true) → (b ≡ true → a ≡ true) → a ≡ b
same_from true b f g = sym (f refl)
same_from false true f g = g refl
same_from false false f g = refl

same_table-itself : (table : Table) → same_table table table ≡ true
same_table-itself Fact = refl
same_table-itself (Dimension d) = eq-eqb d d refl

-- a conjunct that is no key join is on the table of its first column
at_home : (scope : TablesInScope) (t : Condition) → is_none (key_join scope t) ≡ true → is_on scope (first_table scope t) t ≡ true
at_home scope t e = and_from (is_none (key_join scope t)) (same_table (first_table scope t) (first_table scope t)) e (same_table-itself (first_table scope t))

-- a dimension in which a known place stands is among the tables
listed_at : (scope : TablesInScope) (at : Place) (dimension : ℕ) → Stands scope at → table_at at ≡ Dimension dimension
    → Contains scope.tables (Dimension dimension) × (dimension < length scope.schema.dimensions)
listed_at scope (place.Fact column) dimension h e = cc
listed_at scope (place.Dimension other column) dimension h e =
    let same : other ≡ dimension = cc in
    subst (λ (d : ℕ). Contains scope.tables (Dimension d) × (d < length scope.schema.dimensions)) same (dimension-Stands scope other column h)

first_listed : (scope : TablesInScope) (columns : List Column) (dimension : ℕ) → list_any (is_unknown scope) columns ≡ false
    → option_map_or (λ table. table) (slice_get (map (table_of scope) columns) 0) Fact ≡ Dimension dimension
    → Contains scope.tables (Dimension dimension) × (dimension < length scope.schema.dimensions)
first_listed scope [] dimension h e = cc
first_listed scope (column ∷ columns) dimension h e =
    let known = (or_parts (is_unknown scope column) (list_any (is_unknown scope) columns) h).0 in
    listed_at scope (place_of scope column) dimension (place_of-Stands scope column known) e

-- the rows of the dimensions have the keys that the fact row references
abbrev HasKeys : TablesInScope → Joined → Type 0
HasKeys scope row = (column dimension : ℕ) → references scope.schema column dimension ≡ true → Contains scope.tables (Dimension dimension)
    → value_in row.fact column ≡ value_in (dimension_of row dimension) 0

key_parts : (key refers : Bool) (dimension : ℕ) → is_none (cond (key && refers) (Some dimension) None) ≡ false → (key ≡ true) × (refers ≡ true)
key_parts true true dimension h = (refl, refl)
key_parts true false dimension h = cc
key_parts false refers dimension h = cc

-- a key join compares equal values
by_key-equal : (scope : TablesInScope) (row : Joined) → HasKeys scope row → (reference dimension column : ℕ) → Stands scope (place.Dimension dimension column)
    → is_none (joined_by_key scope.schema reference dimension column) ≡ false
    → value_in row.fact reference ≡ value_in (dimension_of row dimension) column
by_key-equal scope row keys reference dimension column stands h =
    let parts = key_parts (column == 0) (references scope.schema reference dimension) dimension h in
    let first : 0 ≡ column = sym (eqb-true column 0 parts.0) in
    keys reference dimension parts.1 (dimension-Stands scope dimension column stands).0 ∙ ap (value_in (dimension_of row dimension)) first

joined-equal : (scope : TablesInScope) (row : Joined) → HasKeys scope row → (left right : Place) → Stands scope left → Stands scope right
    → is_none (joined_dimension scope.schema left right) ≡ false → value_at left row ≡ value_at right row
joined-equal scope row keys (place.Fact reference) (place.Dimension dimension column) l r h = by_key-equal scope row keys reference dimension column r h
joined-equal scope row keys (place.Dimension dimension column) (place.Fact reference) l r h = sym (by_key-equal scope row keys reference dimension column l h)
joined-equal scope row keys (place.Fact left) (place.Fact right) l r h = cc
joined-equal scope row keys (place.Dimension left column) (place.Dimension right other) l r h = cc

module _ (same : (x y : Value) → (value_cmp x y ≡ Equal) ↔ (x ≡ y)) where
  -- a key join holds
  key_join-holds : (scope : TablesInScope) (row : Joined) → HasKeys scope row → (t : Condition) → list_any (is_unknown scope) (columns_in t) ≡ false
      → is_none (key_join scope t) ≡ false → where_holds scope row t ≡ true
  key_join-holds scope row keys (Same left right) known h =
      let one = or_parts (is_unknown scope left) (is_unknown scope right || false) known in
      let other = or_parts (is_unknown scope right) false one.1 in
      let equal = joined-equal scope row keys (place_of scope left) (place_of scope right)
      (place_of-Stands scope left one.0) (place_of-Stands scope right other.0) h in
      ap is_eq ((same (column_value scope row left) (column_value scope row right)).1 equal)
  key_join-holds scope row keys (Either ts) known h = cc
  key_join-holds scope row keys (Both ts) known h = cc
  key_join-holds scope row keys (Negate t) known h = cc
  key_join-holds scope row keys (Test column how value) known h = cc
  key_join-holds scope row keys (Between column low high) known h = cc
  key_join-holds scope row keys (OneOf column values) known h = cc

  met_where : (scope : TablesInScope) (row : Joined) (table : Table) (t : Condition) → is_mixed scope t ≡ false → where_holds scope row t ≡ true
      → is_met scope table (row_of table row) t ≡ true
  met_where scope row table t m h = by (is_on scope table t) refl
    where
      by : (on : Bool) → is_on scope table t ≡ on → is_met scope table (row_of table row) t ≡ true
      by true e =
          ap (λ on. not on || test_holds (row_of table row) (bound_test scope t)) e ∙ sym (holds-on scope row table t m e) ∙ h
      by false e = ap (λ on. not on || test_holds (row_of table row) (bound_test scope t)) e

  where_met : (scope : TablesInScope) (row : Joined) (table : Table) (t : Condition) → is_mixed scope t ≡ false → is_on scope table t ≡ true
      → is_met scope table (row_of table row) t ≡ true → where_holds scope row t ≡ true
  where_met scope row table t m on met =
      holds-on scope row table t m on ∙ sym (ap (λ b. not b || test_holds (row_of table row) (bound_test scope t)) on) ∙ met

  -- a conjunct holds where it is met on each of the tables
  holds-met : (scope : TablesInScope) (row : Joined) → HasKeys scope row → (t : Condition) → list_any (is_unknown scope) (columns_in t) ≡ false
      → is_mixed scope t ≡ false → is_met scope Fact row.fact t ≡ true
      → ((dimension : ℕ) → Contains scope.tables (Dimension dimension) → dimension < length scope.schema.dimensions
      → is_met scope (Dimension dimension) (dimension_of row dimension) t ≡ true)
      → where_holds scope row t ≡ true
  holds-met scope row keys t known m fact dimensions = by (is_none (key_join scope t)) refl
    where
      home : (table : Table) → first_table scope t ≡ table → is_none (key_join scope t) ≡ true → where_holds scope row t ≡ true
      home Fact e plain = where_met scope row Fact t m (subst (λ (table : Table). is_on scope table t ≡ true) e (at_home scope t plain)) fact
      home (Dimension dimension) e plain =
          let listed = first_listed scope (columns_in t) dimension known e in
          where_met scope row (Dimension dimension) t m (subst (λ (table : Table). is_on scope table t ≡ true) e (at_home scope t plain))
          (dimensions dimension listed.0 listed.1)

      by : (plain : Bool) → is_none (key_join scope t) ≡ plain → where_holds scope row t ≡ true
      by true e = home (first_table scope t) refl e
      by false e = key_join-holds scope row keys t known e

takes-named : (test : Option plan.Test) (row : List Value) → takes (named_selection test) row ≡ passes test row
takes-named None row = refl
takes-named (Some t) row = refl

takes-listed : (listed : Bool) (test : Option plan.Test) (row : List Value)
    → takes (cond listed (named_selection test) plan.Unnamed) row ≡ cond listed (passes test row) true
takes-listed true test row = takes-named test row
takes-listed false test row = refl

-- the row of a dimension is taken where the test on it holds, if the dimension is among the tables
takes_at-on : (scope : TablesInScope) (select : SelectParts) (row : Joined) (dimension : ℕ) → length row.dimensions ≡ length scope.schema.dimensions
    → dimension < length scope.schema.dimensions
    → takes_at (query_in scope select) row dimension
    ≡ cond (list_any (same_table (Dimension dimension)) scope.tables) (passes (test_on scope select.conjuncts (Dimension dimension)) (dimension_of row dimension)) true
takes_at-on scope select row dimension rows low = by (slice_get-made (selection_on scope select.conjuncts) (length scope.schema.dimensions) dimension)
  where
    by : ((dimension < length scope.schema.dimensions)
        × (slice_get (query_in scope select).choices dimension ≡ Some (selection_on scope select.conjuncts dimension)))
        ⊎ ((length scope.schema.dimensions ≤ dimension) × (slice_get (query_in scope select).choices dimension ≡ None))
        → takes_at (query_in scope select) row dimension
        ≡ cond (list_any (same_table (Dimension dimension)) scope.tables) (passes (test_on scope select.conjuncts (Dimension dimension)) (dimension_of row dimension)) true
    by (inl found) =
        ap (λ o. option_map_or (λ selection. option_map_or (takes selection) (slice_get row.dimensions dimension) false) o false) found.1
        ∙ ap (λ o. option_map_or (takes (selection_on scope select.conjuncts dimension)) o false) (slice_get-get_or row.dimensions dimension [] (omega arith))
        ∙ takes-listed (list_any (same_table (Dimension dimension)) scope.tables) (test_on scope select.conjuncts (Dimension dimension)) (dimension_of row dimension)
    by (inr past) = let beyond = past.0 in absurd (omega arith)

where-list : (scope : TablesInScope) (row : Joined) (ts : Conditions) → all_of_where scope row ts ≡ list_all (where_holds scope row) (members ts)
where-list scope row none = refl
where-list scope row (more t ts) = ap (λ held. where_holds scope row t && held) (where-list scope row ts)

-- a WHERE holds where each of its conjuncts does
where-conjuncts : (scope : TablesInScope) (row : Joined) (t : Condition) → where_holds scope row t ≡ list_all (where_holds scope row) (conjuncts t)
where-conjuncts scope row (Both ts) = where-list scope row ts
where-conjuncts scope row (Either ts) = sym (and_true (where_holds scope row (Either ts)))
where-conjuncts scope row (Negate t) = sym (and_true (where_holds scope row (Negate t)))
where-conjuncts scope row (Test column how value) = sym (and_true (where_holds scope row (Test column how value)))
where-conjuncts scope row (Same left right) = sym (and_true (where_holds scope row (Same left right)))
where-conjuncts scope row (Between column low high) = sym (and_true (where_holds scope row (Between column low high)))
where-conjuncts scope row (OneOf column values) = sym (and_true (where_holds scope row (OneOf column values)))

whole_where-conjuncts : (scope : TablesInScope) (row : Joined) (condition : Option Condition)
    → whole_where_holds scope row condition ≡ list_all (where_holds scope row) (where_conjuncts condition)
whole_where-conjuncts scope row None = refl
whole_where-conjuncts scope row (Some t) = where-conjuncts scope row t

-- what a query keeps, by the rows of its tables
abbrev Meets : Type 0
Meets = (query : Query) (row : Joined) → IsTrue (is_kept query row)
    ↔ (IsTrue (passes query.fact row.fact) × ((dimension : ℕ) → dimension < length query.choices → IsTrue (takes_at query row dimension)))

module _ (same : (x y : Value) → (value_cmp x y ≡ Equal) ↔ (x ≡ y)) (meets : Meets) where
  kept-where : (scope : TablesInScope) (select : SelectParts) (row : Joined) → list_any (is_unknown scope) (flat_map columns_in select.conjuncts) ≡ false
      → list_any (is_mixed scope) select.conjuncts ≡ false → IsJoinedByKeys scope row
      → list_all (where_holds scope row) select.conjuncts ≡ is_kept (query_in scope select) row
  kept-where scope select row known unmixed joined =
      let cs = select.conjuncts in
      let query : Query = query_in scope select in
      let knowns = each_known (is_unknown scope) cs known in
      let unmixeds = All-fails (is_mixed scope) cs unmixed in
      let count : length query.choices ≡ length scope.schema.dimensions = length-map-range_with_len (selection_on scope cs) 0 (length scope.schema.dimensions) in
      same_from (list_all (where_holds scope row) cs) (is_kept query row)
      (λ holds.
      let each = each_true (where_holds scope row) cs holds in
      let met : (table : Table) → passes (test_on scope cs table) (row_of table row) ≡ true = λ table.
      test_on-met scope cs table (row_of table row)
      ∙ all_true (is_met scope table (row_of table row)) cs (λ k d low. met_where same scope row table (get_or cs k d) (unmixeds k d low) (each k d low)) in
      (meets query row).1 (
        met Fact,
        λ dimension low. takes_at-on scope select row dimension joined.rows (omega arith) ∙ listed_or (list_any (same_table (Dimension dimension)) scope.tables) _ (met (Dimension dimension)),
      ))
      (λ kept.
      let parts = (meets query row).0 kept in
      let fact = each_true (is_met scope Fact row.fact) cs (sym (test_on-met scope cs Fact row.fact) ∙ parts.0) in
      all_true (where_holds scope row) cs (λ k d low.
      holds-met same scope row joined.keys (get_or cs k d) (knowns k d low) (unmixeds k d low) (fact k d low)
      (λ dimension listed below.
      let taken = sym (takes_at-on scope select row dimension joined.rows below) ∙ parts.1 dimension (omega arith) in
      let among = list_any-passes (same_table (Dimension dimension)) scope.tables (Dimension dimension) listed (eq-eqb dimension dimension refl) in
      let test : passes (test_on scope cs (Dimension dimension)) (dimension_of row dimension) ≡ true =
      sym (ap (λ b. cond b (passes (test_on scope cs (Dimension dimension)) (dimension_of row dimension)) true) among) ∙ taken in
      each_true (is_met scope (Dimension dimension) (dimension_of row dimension)) cs
      (sym (test_on-met scope cs (Dimension dimension) (dimension_of row dimension)) ∙ test) k d low)))
    where
      listed_or : (listed test : Bool) → test ≡ true → cond listed test true ≡ true
      listed_or true test e = e
      listed_or false test e = refl

  -- a joined row whose dimension rows have the keys of its fact row is kept where the WHERE holds on it
  pub where-law : (schema : Schema) (items : List AstItem) (names : List (List ℕ)) (condition : Option Condition) (groups : List Column) (query : Query) (row : Joined)
      → bound_select schema (select_of items names condition groups) ≡ Ok query → IsJoinedByKeys (from_tables schema names) row
      → whole_where_holds (from_tables schema names) row condition ≡ is_kept query row
  unfolding bound_select
  where-law schema items names condition groups query row h joined =
      let scope = from_tables schema names in
      let select = select_of items names condition groups in
      let passed_all = accepted scope select query h in
      let last = list_any_parts (is_unknown scope) (filter_map column_of_item items ++ flat_map columns_in select.conjuncts) groups passed_all.known in
      let inside = list_any_parts (is_unknown scope) (filter_map column_of_item items) (flat_map columns_in select.conjuncts) last.0 in
      whole_where-conjuncts scope row condition ∙ kept-where scope select row inside.1 passed_all.unmixed joined
      ∙ ap (λ q. is_kept q row) passed_all.is

-- a dimension is not among the tables of a delete
no_dimension : (schema : Schema) (dimension : ℕ) → Contains (fact_alone schema).tables (Dimension dimension) → ⊥
no_dimension schema dimension h = by h.0 h.1 h.2
  where
    by : (i : ℕ) → i < 1 → get_or (Fact ∷ []) i (Dimension dimension) ≡ Dimension dimension → ⊥
    by zero low e = cc
    by (suc i) low e = omega arith

-- the test of a delete holds on a row of the fact table where its WHERE does
pub delete_where-law : ((x y : Value) → (value_cmp x y ≡ Equal) ↔ (x ≡ y)) → (schema : Schema) (name : List ℕ) (condition : Option Condition) (test : Option plan.Test) (row : List Value)
    → bound_delete schema name (where_conjuncts condition) ≡ Ok test
    → whole_where_holds (fact_alone schema) (record { fact = row; dimensions = [] }) condition ≡ passes test row
delete_where-law same schema name condition test row h =
    let scope = fact_alone schema in
    let joined : Joined = record { fact = row; dimensions = [] } in
    let cs = where_conjuncts condition in
    let accepted_all = accepted_delete schema name cs test h in
    let knowns = each_known (is_unknown scope) cs accepted_all.known in
    let unmixeds = All-fails (is_mixed scope) cs accepted_all.unmixed in
    let keys : HasKeys scope joined = λ column dimension refers listed. absurd (no_dimension schema dimension listed) in
    whole_where-conjuncts scope joined condition
    ∙ same_from (list_all (where_holds scope joined) cs) (passes (test_on scope cs Fact) row)
    (λ holds.
    test_on-met scope cs Fact row
    ∙ all_true (is_met scope Fact row) cs
    (λ k d low. met_where same scope joined Fact (get_or cs k d) (unmixeds k d low) (each_true (where_holds scope joined) cs holds k d low)))
    (λ passed.
    all_true (where_holds scope joined) cs (λ k d low.
    holds-met same scope joined keys (get_or cs k d) (knowns k d low) (unmixeds k d low)
    (each_true (is_met scope Fact row) cs (sym (test_on-met scope cs Fact row) ∙ passed) k d low)
    (λ dimension listed below. absurd (no_dimension schema dimension listed))))
    ∙ ap (λ t. passes t row) accepted_all.is
