-- What a query over the tables of a schema keeps to.
use Rattle.std.specs.Prelude.{◌≡◌, ℕ, ◌<◌, Bool, true, false, List, ◌++◌, length, filter_map, slice_get, Option, Some, None, IsSome, Any, Contains}
use Rattle.std.specs.Option.{option_map_or}
use Rattle.star_values.specs.declared.value.Kind.TheVariants as kind
use Rattle.star_plan.specs.declared.item.Item.{Item}
use Rattle.star_plan.specs.declared.item.Item.TheVariants.{Plain, CountAll, Count, Sum, Min, Max}
use Rattle.star_plan.specs.declared.place.Place.{Place}
use Rattle.star_plan.specs.declared.place.Place.TheVariants.{Dimension}
use Rattle.star_plan.specs.declared.schema.Schema.{Schema}
use Rattle.star_plan.specs.Columns.{dimension_columns, fact_columns, kind_at, kinds_of}
use Rattle.star_plan.specs.Test.{Query, Selection, Unnamed, AllRows, Chosen}
use Rattle.star_plan.specs.Fits.{selection_fits, some_test_fits}

-- the place that an item names
abbrev pub place_of_item : Item → Option Place
place_of_item (Plain place) = Some place
place_of_item CountAll = None
place_of_item (Count place) = Some place
place_of_item (Sum place) = Some place
place_of_item (Min place) = Some place
place_of_item (Max place) = Some place

-- the places of the groups and items of a query
abbrev pub places_in : Query → List Place
places_in query = query.groups ++ filter_map place_of_item query.items

-- whether a selection is that of a dimension that the query names
abbrev pub is_named : Selection → Bool
is_named Unnamed = false
is_named AllRows = true
is_named (Chosen t) = true

-- the query names the dimension of this number
abbrev pub Names : Query → ℕ → Type 0
Names query dimension = option_map_or is_named (slice_get query.choices dimension) false ≡ true

-- each test fits the columns of its table; there is a choice for each dimension, and some
-- item; each place of the groups and items is that of a column; sums are over integers; plain
-- items stand in the groups; the dimensions of the groups and items are named; and those that
-- are named are referenced
pub record IsOver (schema : Schema) (query : Query) : Type 0 where
  pub fact : some_test_fits (kinds_of (fact_columns schema)) query.fact ≡ true
  pub some_item : 0 < length query.items
  pub choices : length query.choices ≡ length schema.dimensions
  pub chosen : (dimension : ℕ) → option_map_or
      (selection_fits (kinds_of (dimension_columns schema dimension)))
      (slice_get query.choices dimension) true ≡ true
  pub places : (place : Place) → Contains (places_in query) place → IsSome (kind_at schema place)
  pub sums : (place : Place) → Contains query.items (Sum place)
      → kind_at schema place ≡ Some kind.Int
  pub plain : (place : Place) → Contains query.items (Plain place) → Contains query.groups place
  pub named : (dimension column : ℕ) → Contains (places_in query) (Dimension dimension column)
      → Names query dimension
  pub referenced : (dimension : ℕ) → Names query dimension
      → Any (λ column. column.target ≡ Some dimension) (fact_columns schema)
