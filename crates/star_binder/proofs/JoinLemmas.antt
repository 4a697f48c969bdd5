-- A dimension that a conjunct joins is referenced by a column of the fact table.
use Rattle.std.proofs.Common.{◌≡◌, ℕ, Bool, true, false, cond, ◌&&◌, ◌==◌, List, slice_get, Option, Some, None, refl, ap, ◌∙◌, subst, eqb-true}
use Rattle.std.specs.List.{Any, list_any}
use Rattle.std.specs.Option.{option_map_or}
use Rattle.std.proofs.lemmas.Option.{get_or_from_slice_get, slice_get_within}
use Rattle.star_parser.specs.Condition.{Condition, Either, Both, Negate, Test, Same, Between, OneOf}
use Rattle.star_plan.specs.Columns.{fact_columns}
use Rattle.star_plan.specs.declared.place.Place.{Place}
use Rattle.star_plan.specs.declared.place.Place.TheVariants.{Fact, Dimension}
use Rattle.star_plan.specs.declared.schema.Schema.{Schema}
use Rattle.star_binder.specs.Conjuncts.{joined_by_key, joined_dimension, joins, references}
use Rattle.star_binder.specs.Places.{place_of}
use Rattle.star_binder.proofs.ListLemmas.{Contains-passes, Some-passes}
use Rattle.star_binder.specs.Scope.{TablesInScope}

-- a number that passes the test of being another is it
target_is : (target : Option ℕ) (dimension : ℕ) → option_map_or (λ number. number == dimension) target false ≡ true → target ≡ Some dimension
target_is target dimension h =
    let found = Some-passes (λ number. number == dimension) target h in
    found.1 ∙ ap Some (eqb-true found.0 dimension found.2)

-- a column that references a dimension is one of the fact table
references-Any : (schema : Schema) (column dimension : ℕ) → references schema column dimension ≡ true
    → Any (λ column. column.target ≡ Some dimension) (fact_columns schema)
references-Any schema column dimension h =
    let found = Some-passes (λ defined. option_map_or (λ target. target == dimension) defined.target false) (slice_get (fact_columns schema) column) h in (
      column,
      found.0,
      slice_get_within (fact_columns schema) column found.0 found.1,
      get_or_from_slice_get (fact_columns schema) column found.0 found.0 found.1,
      target_is found.0.target dimension found.2,
    )

-- a dimension that is joined by its key is referenced
by_key-references : (schema : Schema) (reference other column dimension : ℕ)
    → option_map_or (λ joined. joined == dimension) (joined_by_key schema reference other column) false ≡ true
    → references schema reference dimension ≡ true
by_key-references schema reference other column dimension h = by (column == 0) (references schema reference other) refl h
  where
    by : (key refers : Bool) → references schema reference other ≡ refers
        → option_map_or (λ joined. joined == dimension) (cond (key && refers) (Some other) None) false ≡ true → references schema reference dimension ≡ true
    by true true e h = subst (λ (d : ℕ). references schema reference d ≡ true) (eqb-true other dimension h) e
    by true false e h = cc
    by false refers e h = cc

-- a dimension that two places join is referenced
joined-Any : (schema : Schema) (left right : Place) (dimension : ℕ)
    → option_map_or (λ joined. joined == dimension) (joined_dimension schema left right) false ≡ true
    → Any (λ column. column.target ≡ Some dimension) (fact_columns schema)
joined-Any schema (Fact reference) (Dimension other column) dimension h =
    references-Any schema reference dimension (by_key-references schema reference other column dimension h)
joined-Any schema (Dimension other column) (Fact reference) dimension h =
    references-Any schema reference dimension (by_key-references schema reference other column dimension h)
joined-Any schema (Fact left) (Fact right) dimension h = cc
joined-Any schema (Dimension left column) (Dimension right other) dimension h = cc

-- a dimension that a conjunct joins is referenced
joins-Any : (scope : TablesInScope) (dimension : ℕ) (t : Condition) → joins scope dimension t ≡ true
    → Any (λ column. column.target ≡ Some dimension) (fact_columns scope.schema)
joins-Any scope dimension (Same left right) h = joined-Any scope.schema (place_of scope left) (place_of scope right) dimension h
joins-Any scope dimension (Either ts) h = cc
joins-Any scope dimension (Both ts) h = cc
joins-Any scope dimension (Negate t) h = cc
joins-Any scope dimension (Test column how value) h = cc
joins-Any scope dimension (Between column low high) h = cc
joins-Any scope dimension (OneOf column values) h = cc

-- a dimension that some conjunct joins is referenced
pub some_joins-Any : (scope : TablesInScope) (dimension : ℕ) (conjuncts : List Condition)
    → list_any (joins scope dimension) conjuncts ≡ true → Any (λ column. column.target ≡ Some dimension) (fact_columns scope.schema)
some_joins-Any scope dimension conjuncts h =
    let found = Contains-passes (joins scope dimension) conjuncts h in
    joins-Any scope dimension found.0 found.2
