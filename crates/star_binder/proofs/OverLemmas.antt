-- What is bound keeps to its schema: each select is a query over it, and the test of each delete fits the fact table.
use Rattle.std.proofs.Common.{◌≡◌, ℕ, ◌<◌, ◌≤◌, ◌⊎◌, Bool, true, false, cond, not, ◌||◌, ◌==◌, List, length, map, slice_get, nat_lt, Option, Some, None, Result, Ok, Err, IfOk, refl, ap, sym, ◌∙◌, subst, inl, inr, arith, eqb-true, eq-eqb, if◌then◌else◌}
use Rattle.std.specs.List.{Any, Contains, flat_map, list_any, range_with_len}
use Rattle.std.specs.Option.{option_map_or}
use Rattle.std.proofs.lemmas.Bool.{and_parts, not-false, or_parts}
use Rattle.std.proofs.lemmas.List.{length-map}
use Rattle.std.proofs.lemmas.List.Elements.{All-contains, All-map, All-weaker}
use Rattle.std.proofs.lemmas.List.FromFn.{length-map-range_with_len}
use Rattle.std.proofs.lemmas.Map.Views.{Contains-from_any}
use Rattle.star_values.specs.declared.value.Kind.{Kind}
use Rattle.star_values.specs.declared.value.Kind.TheVariants as kind
use Rattle.star_values.specs.declared.refusal.Refusal.{Refusal}
use Rattle.star_values.specs.declared.refusal.Refusal.TheVariants as refusal
use Rattle.star_parser.specs.declared.ast.AstItem.{AstItem}
use Rattle.star_parser.specs.declared.ast.AstItem.TheVariants as written
use Rattle.star_parser.specs.declared.tree.Column.{Column}
use Rattle.star_parser.specs.Condition.{Condition}
use Rattle.star_plan.specs.Fits.{same_kind, selection_fits, some_test_fits}
use Rattle.star_plan.specs.Columns.{dimension_columns, fact_columns, kind_at, kinds_of, same_table}
use Rattle.star_plan.specs.Over.{IsOver, is_named, places_in}
use Rattle.star_plan.specs.Test as plan
use Rattle.star_plan.specs.Test.{Query, Selection}
use Rattle.star_plan.specs.declared.item.Item.{Item}
use Rattle.star_plan.specs.declared.item.Item.TheVariants as item
use Rattle.star_plan.specs.declared.place.Place.{Place}
use Rattle.star_plan.specs.declared.place.Place.TheVariants as place
use Rattle.star_plan.specs.declared.schema.Schema.{Schema}
use Rattle.star_plan.specs.Repeats.{repeats}
use Rattle.star_plan.specs.declared.table.Table.TheVariants.{Fact, Dimension}
use Rattle.star_binder.specs.Bound.{bound_item, named_selection, query_in, selection_on, test_on}
use Rattle.star_binder.specs.Conjuncts.{is_mixed, joins}
use Rattle.star_binder.specs.Named.{columns_in}
use Rattle.star_binder.specs.Select.{SelectParts, columns_named}
use Rattle.star_binder.specs.declared.TheConstants.{MAX_GROUPS, MAX_ITEMS}
use Rattle.star_plan.specs.Answer.{same_place}
use Rattle.star_binder.specs.Places.{is_ambiguous, is_unknown, place_of}
use Rattle.star_binder.specs.Refused.{bound_delete, bound_over, bound_select, fact_alone, from_tables, has_another_kind, is_not_grouped, is_not_joined, lacks_a_join, names_no_table, names_the_fact, sums_a_text}
use Rattle.star_binder.proofs.ListLemmas.{All-fails, Some-passes, list_any-passes, slice_get-made}
use Rattle.star_binder.proofs.FitsLemmas.{same_table-true, test_on-fits}
use Rattle.star_binder.proofs.PlaceLemmas.{Stands, all_places-Stand, dimension-Stands, kind_at-Stands}
use Rattle.star_binder.proofs.JoinLemmas.{some_joins-Any}
use Rattle.star_binder.specs.Scope.{TablesInScope}

-- what is accepted passed the first check, and the checks behind it
passed : {A : Type 0} (b : Bool) (reason : Refusal) (rest : Result A Refusal) (value : A) → cond b (Err reason) rest ≡ Ok value → (b ≡ false) × (rest ≡ Ok value)
passed true reason rest value h = cc
passed false reason rest value h = (refl, h)

-- accepted results are the same only where their values are
same_Ok : {A : Type 0} (x y : A) → ◌≡◌ {A = Result A Refusal} (Ok x) (Ok y) → x ≡ y
same_Ok x y e = cc

-- the checks that an accepted select passed, and the query that it is
pub record IsAccepted (scope : TablesInScope) (select : SelectParts) (query : Query) : Type 0 where
  pub known : list_any (is_unknown scope) (columns_named select) ≡ false
  pub kinds : has_another_kind scope select.conjuncts ≡ false
  pub sums : list_any (sums_a_text scope) select.items ≡ false
  pub joined : lacks_a_join scope select.conjuncts ≡ false
  pub unmixed : list_any (is_mixed scope) select.conjuncts ≡ false
  pub grouped : list_any (is_not_grouped scope select.groups) select.items ≡ false
  pub is : query_in scope select ≡ query

module _ (scope : TablesInScope) (select : SelectParts) where
  -- what stands behind each check, from the last on
  abbrev grouped_rest : Result Query Refusal
  grouped_rest =
      if list_any (is_not_grouped scope select.groups) select.items then Err refusal.NotGrouped else
      Ok (query_in scope select)

  abbrev mixed_rest : Result Query Refusal
  mixed_rest = if list_any (is_mixed scope) select.conjuncts then Err refusal.MixedConjunct else grouped_rest

  abbrev join_rest : Result Query Refusal
  join_rest = if lacks_a_join scope select.conjuncts then Err refusal.MissingJoin else mixed_rest

  abbrev kind_rest : Result Query Refusal
  kind_rest =
      if has_another_kind scope select.conjuncts || list_any (sums_a_text scope) select.items
      then Err refusal.TypeMismatch else join_rest

  abbrev ambiguous_rest : Result Query Refusal
  ambiguous_rest =
      if list_any (is_ambiguous scope) (columns_named select) then Err refusal.AmbiguousName else kind_rest

  abbrev limit_rest : Result Query Refusal
  limit_rest =
      if nat_lt MAX_ITEMS (length select.items) || nat_lt MAX_GROUPS (length select.groups) then Err refusal.Limit else ambiguous_rest

  abbrev name_rest : Result Query Refusal
  name_rest =
      if list_any (names_no_table scope.schema) select.names || list_any (is_unknown scope) (columns_named select)
      then Err refusal.UnknownName else limit_rest

  -- an accepted select passed each check
  pub accepted : (query : Query) → bound_over scope select ≡ Ok query → IsAccepted scope select query
  accepted query h =
      let unrepeated = passed (repeats same_table scope.tables) refusal.DuplicateName name_rest query h in
      let named = passed (list_any (names_no_table scope.schema) select.names || list_any (is_unknown scope) (columns_named select)) refusal.UnknownName limit_rest query unrepeated.1 in
      let limited = passed (nat_lt MAX_ITEMS (length select.items) || nat_lt MAX_GROUPS (length select.groups)) refusal.Limit ambiguous_rest query named.1 in
      let plain = passed (list_any (is_ambiguous scope) (columns_named select)) refusal.AmbiguousName kind_rest query limited.1 in
      let kinds = passed (has_another_kind scope select.conjuncts || list_any (sums_a_text scope) select.items) refusal.TypeMismatch join_rest query plain.1 in
      let joined = passed (lacks_a_join scope select.conjuncts) refusal.MissingJoin mixed_rest query kinds.1 in
      let unmixed = passed (list_any (is_mixed scope) select.conjuncts) refusal.MixedConjunct grouped_rest query joined.1 in
      let grouped = passed (list_any (is_not_grouped scope select.groups) select.items) refusal.NotGrouped (Ok (query_in scope select)) query unmixed.1 in
      let texts = or_parts (has_another_kind scope select.conjuncts) (list_any (sums_a_text scope) select.items) kinds.0 in
      record {
        known = (or_parts (list_any (names_no_table scope.schema) select.names) (list_any (is_unknown scope) (columns_named select)) named.0).1;
        kinds = texts.0;
        sums = texts.1;
        joined = joined.0;
        unmixed = unmixed.0;
        grouped = grouped.0;
        is = same_Ok (query_in scope select) query grouped.1;
      }

-- a kind that compares as the same as integers is theirs
same_kind-Int : (found : Kind) → same_kind kind.Int found ≡ true → found ≡ kind.Int
same_kind-Int kind.Int h = refl
same_kind-Int kind.Text h = cc

-- places that compare as the same are the same
same_place-true : (at other : Place) → same_place at other ≡ true → at ≡ other
same_place-true (place.Fact column) (place.Fact other) h = ap place.Fact (eqb-true column other h)
same_place-true (place.Fact column) (place.Dimension dimension other) h = cc
same_place-true (place.Dimension dimension column) (place.Fact other) h = cc
same_place-true (place.Dimension dimension column) (place.Dimension another other) h =
    let two = and_parts (dimension == another) (column == other) h in
    let same : dimension ≡ another = eqb-true dimension another two.0 in
    let last : column ≡ other = eqb-true column other two.1 in
    (cc)

-- a selection fits where its test does
named_selection-fits : (kinds : List Kind) (test : Option plan.Test) → some_test_fits kinds test ≡ true → selection_fits kinds (named_selection test) ≡ true
named_selection-fits kinds None h = refl
named_selection-fits kinds (Some t) h = h

-- the rows of a dimension that is named are named
named_selection-named : (test : Option plan.Test) → is_named (named_selection test) ≡ true
named_selection-named None = refl
named_selection-named (Some t) = refl

module _ (scope : TablesInScope) (conjuncts : List Condition) where
  -- a dimension among the tables compares as the same as one of them
  dimension-listed : (dimension : ℕ) → Contains scope.tables (Dimension dimension) → list_any (same_table (Dimension dimension)) scope.tables ≡ true
  dimension-listed dimension h = list_any-passes (same_table (Dimension dimension)) scope.tables (Dimension dimension) h (eq-eqb dimension dimension refl)

  -- the selection of a dimension that is among the tables is named
  selection_on-named : (dimension : ℕ) → list_any (same_table (Dimension dimension)) scope.tables ≡ true → is_named (selection_on scope conjuncts dimension) ≡ true
  selection_on-named dimension h =
      ap (λ b. is_named (cond b (named_selection (test_on scope conjuncts (Dimension dimension))) plan.Unnamed)) h
      ∙ named_selection-named (test_on scope conjuncts (Dimension dimension))

  -- and one that is named is among the tables
  named-selection_on : (dimension : ℕ) → is_named (selection_on scope conjuncts dimension) ≡ true → list_any (same_table (Dimension dimension)) scope.tables ≡ true
  named-selection_on dimension h = by (list_any (same_table (Dimension dimension)) scope.tables) h
    where
      by : (b : Bool) → is_named (cond b (named_selection (test_on scope conjuncts (Dimension dimension))) plan.Unnamed) ≡ true → b ≡ true
      by true h = refl
      by false h = cc

  -- each selection fits
  selection_on-fits : (dimension : ℕ) → has_another_kind scope conjuncts ≡ false → list_any (is_mixed scope) conjuncts ≡ false
      → selection_fits (kinds_of (dimension_columns scope.schema dimension)) (selection_on scope conjuncts dimension) ≡ true
  selection_on-fits dimension h m = by (list_any (same_table (Dimension dimension)) scope.tables)
    where
      by : (b : Bool) → selection_fits (kinds_of (dimension_columns scope.schema dimension))
          (cond b (named_selection (test_on scope conjuncts (Dimension dimension))) plan.Unnamed) ≡ true
      by true =
          named_selection-fits (kinds_of (dimension_columns scope.schema dimension)) (test_on scope conjuncts (Dimension dimension))
          (test_on-fits scope (Dimension dimension) conjuncts m h)
      by false = refl

  -- the choices of the query
  abbrev choices_on : List Selection
  choices_on = map (selection_on scope conjuncts) (range_with_len 0 (length scope.schema.dimensions))

  -- each choice fits
  choices_on-fit : (dimension : ℕ) → has_another_kind scope conjuncts ≡ false → list_any (is_mixed scope) conjuncts ≡ false
      → option_map_or (selection_fits (kinds_of (dimension_columns scope.schema dimension))) (slice_get choices_on dimension) true ≡ true
  choices_on-fit dimension h m = by (slice_get-made (selection_on scope conjuncts) (length scope.schema.dimensions) dimension)
    where
      by : ((dimension < length scope.schema.dimensions) × (slice_get choices_on dimension ≡ Some (selection_on scope conjuncts dimension)))
          ⊎ ((length scope.schema.dimensions ≤ dimension) × (slice_get choices_on dimension ≡ None))
          → option_map_or (selection_fits (kinds_of (dimension_columns scope.schema dimension))) (slice_get choices_on dimension) true ≡ true
      by (inl found) =
          ap (λ o. option_map_or (selection_fits (kinds_of (dimension_columns scope.schema dimension))) o true) found.1
          ∙ selection_on-fits dimension h m
      by (inr past) = ap (λ o. option_map_or (selection_fits (kinds_of (dimension_columns scope.schema dimension))) o true) past.1

  -- a dimension of the schema that is among the tables is named
  choices_on-named : (dimension : ℕ) → Contains scope.tables (Dimension dimension) → dimension < length scope.schema.dimensions
      → option_map_or is_named (slice_get choices_on dimension) false ≡ true
  choices_on-named dimension h low = by (slice_get-made (selection_on scope conjuncts) (length scope.schema.dimensions) dimension)
    where
      by : ((dimension < length scope.schema.dimensions) × (slice_get choices_on dimension ≡ Some (selection_on scope conjuncts dimension)))
          ⊎ ((length scope.schema.dimensions ≤ dimension) × (slice_get choices_on dimension ≡ None))
          → option_map_or is_named (slice_get choices_on dimension) false ≡ true
      by (inl found) = ap (λ o. option_map_or is_named o false) found.1 ∙ selection_on-named dimension (dimension-listed dimension h)
      by (inr past) = let beyond = past.0 in absurd (omega arith)

  -- a dimension that is named is among the tables
  named-choices_on : (dimension : ℕ) → option_map_or is_named (slice_get choices_on dimension) false ≡ true
      → list_any (same_table (Dimension dimension)) scope.tables ≡ true
  named-choices_on dimension h = by (slice_get-made (selection_on scope conjuncts) (length scope.schema.dimensions) dimension)
    where
      by : ((dimension < length scope.schema.dimensions) × (slice_get choices_on dimension ≡ Some (selection_on scope conjuncts dimension)))
          ⊎ ((length scope.schema.dimensions ≤ dimension) × (slice_get choices_on dimension ≡ None))
          → list_any (same_table (Dimension dimension)) scope.tables ≡ true
      by (inl found) = named-selection_on dimension (sym (ap (λ o. option_map_or is_named o false) found.1) ∙ h)
      by (inr past) = let wrong : false ≡ true = sym (ap (λ o. option_map_or is_named o false) past.1) ∙ h in (cc)

  -- a dimension that is among the tables is referenced, where no join is missing
  listed-references : (dimension : ℕ) → list_any (same_table (Dimension dimension)) scope.tables ≡ true → lacks_a_join scope conjuncts ≡ false
      → Any (λ column. column.target ≡ Some dimension) (fact_columns scope.schema)
  listed-references dimension h k =
      let two = or_parts (not (list_any (same_table Fact) scope.tables)) (list_any (is_not_joined scope conjuncts) scope.tables) k in
      let among : Contains scope.tables (Dimension dimension) = Contains-from_any {eq = same_table} same_table-true (Dimension dimension) scope.tables h in
      let each = All-fails (is_not_joined scope conjuncts) scope.tables two.1 in
      some_joins-Any scope dimension conjuncts
      (not-false (list_any (joins scope dimension) conjuncts)
      (All-contains (λ table. is_not_joined scope conjuncts table ≡ false) scope.tables (Dimension dimension) each among))

module _ (scope : TablesInScope) (groups : List Column) where
  -- a sum is over integers
  item-sums : (written : AstItem) → sums_a_text scope written ≡ false → (at : Place) → bound_item scope written ≡ item.Sum at
      → kind_at scope.schema at ≡ Some kind.Int
  item-sums (written.Plain column) h at e = cc
  item-sums written.CountAll h at e = cc
  item-sums (written.Count column) h at e = cc
  item-sums (written.Sum column) h at e =
      let found = Some-passes (same_kind kind.Int) (kind_at scope.schema (place_of scope column))
      (not-false (option_map_or (same_kind kind.Int) (kind_at scope.schema (place_of scope column)) false) h) in
      subst (λ (p : Place). kind_at scope.schema p ≡ Some kind.Int) (same_Sum (place_of scope column) at e)
      (found.1 ∙ ap Some (same_kind-Int found.0 found.2))
    where
      same_Sum : (p q : Place) → item.Sum p ≡ item.Sum q → p ≡ q
      same_Sum p q e = cc
  item-sums (written.Min column) h at e = cc
  item-sums (written.Max column) h at e = cc

  -- each sum is over integers
  items-sum : (items : List AstItem) → list_any (sums_a_text scope) items ≡ false → (at : Place)
      → Contains (map (bound_item scope) items) (item.Sum at) → kind_at scope.schema at ≡ Some kind.Int
  items-sum items h at among =
      let P : Item → Type 0 = λ bound. bound ≡ item.Sum at → kind_at scope.schema at ≡ Some kind.Int in
      All-contains P (map (bound_item scope) items) (item.Sum at)
      (All-map P (bound_item scope) items
      (All-weaker (λ written. sums_a_text scope written ≡ false) (λ written. P (bound_item scope written))
      (λ written k e. item-sums written k at e) items (All-fails (sums_a_text scope) items h)))
      among refl

  -- a plain item stands in the groups
  item-grouped : (written : AstItem) → is_not_grouped scope groups written ≡ false → (at : Place) → bound_item scope written ≡ item.Plain at
      → Contains (map (place_of scope) groups) at
  item-grouped (written.Plain column) h at e =
      subst (λ (p : Place). Contains (map (place_of scope) groups) p) (same_Plain (place_of scope column) at e)
      (Contains-from_any {eq = same_place} same_place-true (place_of scope column) (map (place_of scope) groups)
      (not-false (list_any (same_place (place_of scope column)) (map (place_of scope) groups)) h))
    where
      same_Plain : (p q : Place) → item.Plain p ≡ item.Plain q → p ≡ q
      same_Plain p q e = cc
  item-grouped written.CountAll h at e = cc
  item-grouped (written.Count column) h at e = cc
  item-grouped (written.Sum column) h at e = cc
  item-grouped (written.Min column) h at e = cc
  item-grouped (written.Max column) h at e = cc

  -- each plain item stands in the groups
  items-grouped : (items : List AstItem) → list_any (is_not_grouped scope groups) items ≡ false → (at : Place)
      → Contains (map (bound_item scope) items) (item.Plain at) → Contains (map (place_of scope) groups) at
  items-grouped items h at among =
      let P : Item → Type 0 = λ bound. bound ≡ item.Plain at → Contains (map (place_of scope) groups) at in
      All-contains P (map (bound_item scope) items) (item.Plain at)
      (All-map P (bound_item scope) items
      (All-weaker (λ written. is_not_grouped scope groups written ≡ false) (λ written. P (bound_item scope written))
      (λ written k e. item-grouped written k at e) items (All-fails (is_not_grouped scope groups) items h)))
      among refl

-- the query of an accepted select keeps to its schema
query_in-IsOver : (scope : TablesInScope) (select : SelectParts) (query : Query) → 0 < length select.items
    → IsAccepted scope select query → IsOver scope.schema (query_in scope select)
query_in-IsOver scope select query some h =
    let stand = all_places-Stand scope select h.known in
    let over : Query = query_in scope select in
    record {
      fact = test_on-fits scope Fact select.conjuncts h.unmixed h.kinds;
      some_item = let count = length-map select.items (bound_item scope) in omega arith;
      choices = length-map-range_with_len (selection_on scope select.conjuncts) 0 (length scope.schema.dimensions);
      chosen = λ dimension. choices_on-fit scope select.conjuncts dimension h.kinds h.unmixed;
      places = λ at among. kind_at-Stands scope at (All-contains (Stands scope) (places_in over) at stand among);
      sums = items-sum scope select.groups select.items h.sums;
      plain = items-grouped scope select.groups select.items h.grouped;
      named = λ dimension column among.
          let found = dimension-Stands scope dimension column
          (All-contains (Stands scope) (places_in over) (place.Dimension dimension column) stand among) in
          choices_on-named scope select.conjuncts dimension found.0 found.1;
      referenced = λ dimension named.
          listed-references scope select.conjuncts dimension (named-choices_on scope select.conjuncts dimension named) h.joined;
    }

-- the query of a select of some item keeps to its schema
pub bound_select-IsOver : (schema : Schema) (select : SelectParts) (query : Query) → 0 < length select.items
    → bound_select schema select ≡ Ok query → IsOver schema query
unfolding bound_select
bound_select-IsOver schema select query some h =
    let passed_all = accepted (from_tables schema select.names) select query h in
    subst (λ (q : Query). IsOver schema q) passed_all.is
    (query_in-IsOver (from_tables schema select.names) select query some passed_all)

-- the checks that an accepted delete passed, and its test
pub record IsAcceptedDelete (scope : TablesInScope) (conjuncts : List Condition) (test : Option plan.Test) : Type 0 where
  pub known : list_any (is_unknown scope) (flat_map columns_in conjuncts) ≡ false
  pub kinds : has_another_kind scope conjuncts ≡ false
  pub unmixed : list_any (is_mixed scope) conjuncts ≡ false
  pub is : test_on scope conjuncts Fact ≡ test

-- an accepted delete passed each check
pub accepted_delete : (schema : Schema) (name : List ℕ) (conjuncts : List Condition) (test : Option plan.Test)
    → bound_delete schema name conjuncts ≡ Ok test → IsAcceptedDelete (fact_alone schema) conjuncts test
unfolding bound_delete
accepted_delete schema name conjuncts test h =
    let scope = fact_alone schema in
    let mixed_rest : Result (Option plan.Test) Refusal =
    if list_any (is_mixed scope) conjuncts then Err refusal.MixedConjunct else Ok (test_on scope conjuncts Fact) in
    let kind_rest : Result (Option plan.Test) Refusal =
    if has_another_kind scope conjuncts then Err refusal.TypeMismatch else mixed_rest in
    let named = passed (not (names_the_fact schema name) || list_any (is_unknown scope) (flat_map columns_in conjuncts))
    refusal.UnknownName kind_rest test h in
    let kinds = passed (has_another_kind scope conjuncts) refusal.TypeMismatch mixed_rest test named.1 in
    let unmixed = passed (list_any (is_mixed scope) conjuncts) refusal.MixedConjunct (Ok (test_on scope conjuncts Fact)) test kinds.1 in
    record {
      known = (or_parts (not (names_the_fact schema name)) (list_any (is_unknown scope) (flat_map columns_in conjuncts)) named.0).1;
      kinds = kinds.0;
      unmixed = unmixed.0;
      is = same_Ok (test_on scope conjuncts Fact) test unmixed.1;
    }

-- the test of a delete fits the fact table
pub bound_delete-fits : (schema : Schema) (name : List ℕ) (conjuncts : List Condition) (test : Option plan.Test)
    → bound_delete schema name conjuncts ≡ Ok test → some_test_fits (kinds_of (fact_columns schema)) test ≡ true
bound_delete-fits schema name conjuncts test h =
    let accepted_all = accepted_delete schema name conjuncts test h in
    subst (λ (t : Option plan.Test). some_test_fits (kinds_of (fact_columns schema)) t ≡ true) accepted_all.is
    (test_on-fits (fact_alone schema) Fact conjuncts accepted_all.unmixed accepted_all.kinds)

-- what holds of each value that a result may have, holds if it has one
IfOk-each : {A : Type 0} (result : Result A Refusal) (P : A → Type 0) → ((value : A) → result ≡ Ok value → P value) → IfOk result P
IfOk-each (Ok value) P h = h value refl
IfOk-each (Err reason) P h = tt

-- the same of the result of a select
pub bound_select-law : (schema : Schema) (select : SelectParts) → 0 < length select.items → IfOk (bound_select schema select) (λ query. IsOver schema query)
bound_select-law schema select some =
    IfOk-each (bound_select schema select) (λ query. IsOver schema query) (λ query h. bound_select-IsOver schema select query some h)

-- the same of the result of a delete
pub bound_delete-law : (schema : Schema) (name : List ℕ) (conjuncts : List Condition)
    → IfOk (bound_delete schema name conjuncts) (λ test. some_test_fits (kinds_of (fact_columns schema)) test ≡ true)
bound_delete-law schema name conjuncts =
    IfOk-each (bound_delete schema name conjuncts) (λ test. some_test_fits (kinds_of (fact_columns schema)) test ≡ true) (bound_delete-fits schema name conjuncts)
