-- The conditions on a table, as one test, fit the table's columns, where no literal has another kind.
use Rattle.std.proofs.Common.{◌≡◌, ℕ, Bool, true, false, cond, not, ◌||◌, ◌&&◌, List, [], ◌∷◌, map, slice_get, is_none, refl, ap, sym, ◌∙◌, subst, eqb-true}
use Rattle.std.specs.List.{filter, flat_map, list_all, list_any}
use Rattle.std.specs.Option.{option_map_or}
use Rattle.std.proofs.lemmas.Bool.{and_from, and_parts, not-false, or_parts}
use Rattle.star_values.specs.declared.value.Kind.{Kind}
use Rattle.star_values.specs.declared.value.Value.{Value}
use Rattle.star_parser.specs.declared.tree.Column.{Column}
use Rattle.star_parser.specs.Condition.{Condition, Conditions, Either, Both, Negate, Test, Same, Between, OneOf, none, more}
use Rattle.star_plan.specs.Fits.{all_fit, fits_column, some_test_fits, test_fits}
use Rattle.star_plan.specs.Columns.{kinds_of, columns_of, same_table}
use Rattle.star_plan.specs.Test as plan
use Rattle.star_plan.specs.declared.schema.Schema.{Schema}
use Rattle.star_plan.specs.declared.table.Table.{Table}
use Rattle.star_plan.specs.declared.table.Table.TheVariants.{Fact, Dimension}
use Rattle.star_binder.specs.Bound.{all_of, bound_test, bound_tests, number_of, test_on}
use Rattle.star_binder.specs.Conjuncts.{first_table, has_another, is_mixed, is_on, key_join, tables_in}
use Rattle.star_binder.specs.Named.{beside, columns_in, columns_in_all, compares_columns, literals_in, literals_in_all}
use Rattle.star_binder.specs.Places.{table_of}
use Rattle.star_binder.specs.Refused.{has_another_kind, is_of_another_kind}
use Rattle.star_binder.proofs.ListLemmas.{list_any_lone, list_any_mapped_parts, list_any_parts}
use Rattle.star_binder.specs.Scope.{TablesInScope}

-- tables that compare as the same are the same
pub same_table-true : (table other : Table) → same_table table other ≡ true → table ≡ other
same_table-true Fact Fact h = refl
same_table-true Fact (Dimension e) h = cc
same_table-true (Dimension d) Fact h = cc
same_table-true (Dimension d) (Dimension e) h = ap Dimension (eqb-true d e h)

-- where the first table is this one and no other table stands in the list, none is another than this one
pub none_is_another : (table : Table) (tables : List Table) → same_table table (option_map_or (λ first. first) (slice_get tables 0) Fact) ≡ true
    → has_another tables ≡ false → list_any (λ other. not (same_table table other)) tables ≡ false
none_is_another table [] h k = refl
none_is_another table (first ∷ rest) h k = from_first table first rest (same_table-true table first h) h k
  where
    from_first : (table first : Table) (rest : List Table) → table ≡ first → same_table table first ≡ true
        → list_any (λ other. not (same_table first other)) rest ≡ false
        → (not (same_table table first) || list_any (λ other. not (same_table table other)) rest) ≡ false
    from_first table first rest e h k =
        ap (λ t. not t || list_any (λ other. not (same_table table other)) rest) h
        ∙ subst (λ (t : Table). list_any (λ other. not (same_table t other)) rest ≡ false) (sym e) k

-- a literal that fits beside a column of a table fits in this table, where it is the same one
fits_in_same : (schema : Schema) (table other : Table) (number : ℕ) (value : Value) → not (same_table table other) ≡ false
    → not (fits_column (kinds_of (columns_of schema other)) number value) ≡ false → fits_column (kinds_of (columns_of schema table)) number value ≡ true
fits_in_same schema table other number value h k =
    subst (λ (t : Table). fits_column (kinds_of (columns_of schema t)) number value ≡ true)
    (sym (same_table-true table other (not-false (same_table table other) h)))
    (not-false (fits_column (kinds_of (columns_of schema other)) number value) k)

-- tests fit all where each does
all_fit-tests : (kinds : List Kind) (ts : List plan.Test) → list_all (test_fits kinds) ts ≡ true → all_fit kinds (plan.tests ts) ≡ true
all_fit-tests kinds [] h = refl
all_fit-tests kinds (t ∷ ts) h =
    let two = and_parts (test_fits kinds t) (list_all (test_fits kinds) ts) h in
    and_from (test_fits kinds t) (all_fit kinds (plan.tests ts)) two.0 (all_fit-tests kinds ts two.1)

-- several tests as one fit where each does
all_of-fits : (kinds : List Kind) (ts : List plan.Test) → list_all (test_fits kinds) ts ≡ true → some_test_fits kinds (all_of ts) ≡ true
all_of-fits kinds [] h = refl
all_of-fits kinds (t ∷ []) h = (and_parts (test_fits kinds t) true h).0
all_of-fits kinds (t ∷ u ∷ ts) h = all_fit-tests kinds (t ∷ u ∷ ts) h

module _ (scope : TablesInScope) (table : Table) where
  -- whether a table is another than this one
  abbrev is_another : Table → Bool
  is_another other = not (same_table table other)

  -- a literal beside a column fits
  literal_fits : (column : Column) (value : Value) → is_another (table_of scope column) ≡ false
      → is_of_another_kind scope (beside column value) ≡ false
      → fits_column (kinds_of (columns_of scope.schema table)) (number_of scope column) value ≡ true
  literal_fits column value h k = fits_in_same scope.schema table (table_of scope column) (number_of scope column) value h k

  -- the same of several literals beside one column
  literals_fit : (column : Column) (values : List Value) → is_another (table_of scope column) ≡ false
      → list_any (is_of_another_kind scope) (map (beside column) values) ≡ false
      → list_all (fits_column (kinds_of (columns_of scope.schema table)) (number_of scope column)) values ≡ true
  literals_fit column [] h k = refl
  literals_fit column (value ∷ values) h k =
      let two = or_parts (is_of_another_kind scope (beside column value)) (list_any (is_of_another_kind scope) (map (beside column) values)) k in
      and_from (fits_column (kinds_of (columns_of scope.schema table)) (number_of scope column) value)
      (list_all (fits_column (kinds_of (columns_of scope.schema table)) (number_of scope column)) values)
      (literal_fits column value h two.0) (literals_fit column values h two.1)

  mutual
    -- a condition whose columns are all of one table fits it, where its literals have the kinds of the columns
    bound_test-fits : (t : Condition) → list_any is_another (map (table_of scope) (columns_in t)) ≡ false
        → list_any (is_of_another_kind scope) (literals_in t) ≡ false
        → test_fits (kinds_of (columns_of scope.schema table)) (bound_test scope t) ≡ true
    bound_test-fits (Either ts) h k = bound_tests-fit ts h k
    bound_test-fits (Both ts) h k = bound_tests-fit ts h k
    bound_test-fits (Negate t) h k = bound_test-fits t h k
    bound_test-fits (Test column how value) h k =
        literal_fits column value (list_any_lone is_another (table_of scope column) h)
        (list_any_lone (is_of_another_kind scope) (beside column value) k)
    bound_test-fits (Same left right) h k = refl
    bound_test-fits (Between column low high) h k =
        let lone = list_any_lone is_another (table_of scope column) h in
        let two = list_any_parts (is_of_another_kind scope) (beside column low ∷ []) (beside column high ∷ []) k in
        and_from _ _
        (literal_fits column low lone (list_any_lone (is_of_another_kind scope) (beside column low) two.0))
        (literal_fits column high lone (list_any_lone (is_of_another_kind scope) (beside column high) two.1))
    bound_test-fits (OneOf column values) h k =
        literals_fit column values (list_any_lone is_another (table_of scope column) h) k

    bound_tests-fit : (ts : Conditions) → list_any is_another (map (table_of scope) (columns_in_all ts)) ≡ false
        → list_any (is_of_another_kind scope) (literals_in_all ts) ≡ false
        → all_fit (kinds_of (columns_of scope.schema table)) (bound_tests scope ts) ≡ true
    bound_tests-fit none h k = refl
    bound_tests-fit (more t ts) h k =
        let places = list_any_mapped_parts is_another (table_of scope) (columns_in t) (columns_in_all ts) h in
        let literals = list_any_parts (is_of_another_kind scope) (literals_in t) (literals_in_all ts) k in
        and_from (test_fits (kinds_of (columns_of scope.schema table)) (bound_test scope t))
        (all_fit (kinds_of (columns_of scope.schema table)) (bound_tests scope ts))
        (bound_test-fits t places.0 literals.0) (bound_tests-fit ts places.1 literals.1)

  -- where a conjunct is no key join and is not mixed, its columns are of one table
  is_one_table : (unjoined compares another : Bool) → (unjoined && (compares || another)) ≡ false → unjoined ≡ true → another ≡ false
  is_one_table true true another h e = cc
  is_one_table true false another h e = h
  is_one_table false compares another h e = cc

  -- a conjunct on this table fits it
  on-fits : (t : Condition) → is_on scope table t ≡ true → is_mixed scope t ≡ false
      → list_any (is_of_another_kind scope) (literals_in t) ≡ false
      → test_fits (kinds_of (columns_of scope.schema table)) (bound_test scope t) ≡ true
  on-fits t h m k =
      let two = and_parts (is_none (key_join scope t)) (same_table table (first_table scope t)) h in
      bound_test-fits t
      (none_is_another table (tables_in scope t) two.1
      (is_one_table (is_none (key_join scope t)) (compares_columns t) (has_another (tables_in scope t)) m two.0))
      k

  -- the conjuncts on this table fit it
  all_on-fit : (conjuncts : List Condition) → list_any (is_mixed scope) conjuncts ≡ false
      → list_any (is_of_another_kind scope) (flat_map literals_in conjuncts) ≡ false
      → list_all (test_fits (kinds_of (columns_of scope.schema table))) (map (bound_test scope) (filter (is_on scope table) conjuncts)) ≡ true
  all_on-fit [] m k = refl
  all_on-fit (t ∷ ts) m k =
      let parts = or_parts (is_mixed scope t) (list_any (is_mixed scope) ts) m in
      let literals = list_any_parts (is_of_another_kind scope) (literals_in t) (flat_map literals_in ts) k in
      with_first (is_on scope table t) (λ h. on-fits t h parts.0 literals.0) (all_on-fit ts parts.1 literals.1)
    where
      with_first : (b : Bool) → (b ≡ true → test_fits (kinds_of (columns_of scope.schema table)) (bound_test scope t) ≡ true)
          → list_all (test_fits (kinds_of (columns_of scope.schema table))) (map (bound_test scope) (filter (is_on scope table) ts)) ≡ true
          → list_all (test_fits (kinds_of (columns_of scope.schema table)))
          (map (bound_test scope) (cond b (t ∷ filter (is_on scope table) ts) (filter (is_on scope table) ts))) ≡ true
      with_first true first later = and_from _ _ (first refl) later
      with_first false first later = later

  -- the conditions on a table, as one test, fit it
  pub test_on-fits : (conjuncts : List Condition) → list_any (is_mixed scope) conjuncts ≡ false → has_another_kind scope conjuncts ≡ false
      → some_test_fits (kinds_of (columns_of scope.schema table)) (test_on scope conjuncts table) ≡ true
  test_on-fits conjuncts m k =
      all_of-fits (kinds_of (columns_of scope.schema table)) (map (bound_test scope) (filter (is_on scope table) conjuncts))
      (all_on-fit conjuncts m k)
