-- Values by key numbers are those of joined rows.
use Rattle.std.proofs.Common.{◌≡◌, ℕ, zero, suc, ◌<◌, Bool, true, false, cond, List, [], ◌∷◌, length, map, get_or, Option, None, Some, refl, ap, sym, ◌∙◌, arith}
use Rattle.std.specs.Prelude.{Contains, filter_map, slice_get}
use Rattle.std.specs.List.{All, cons_option}
use Rattle.std.specs.Option.{option_map_or}
use Rattle.std.proofs.lemmas.List.FromFn.{get_or-map-range_with_len}
use Rattle.std.proofs.lemmas.List.Elements.{All-head, All-tail, Contains-append_left, Contains-append_right, Contains-get_or}
use Rattle.star_values.specs.Roomy.{Roomy}
use Rattle.star_plan.specs.declared.item.Item.{Item}
use Rattle.star_plan.specs.declared.item.Item.TheVariants.{Plain, CountAll, Count, Sum, Min, Max}
use Rattle.star_plan.specs.declared.place.Place.{Place}
use Rattle.star_plan.specs.declared.place.Place.TheVariants.{Fact, Dimension}
use Rattle.star_plan.specs.Groups.{key_of}
use Rattle.star_plan.specs.Joined.{dimension_of, value_at}
use Rattle.star_plan.specs.Over.{Names, is_named, place_of_item, places_in}
use Rattle.star_plan.specs.Row.{value_in}
use Rattle.star_plan.specs.Test.{Query}
use Rattle.fact_versions.specs.declared.version.Version.{Version}
use Rattle.dimension_rows.specs.declared.dimension_row.DimensionRow.{DimensionRow}
use Rattle.query_meaning.specs.Alone.{names}
use Rattle.query_meaning.specs.KeptTables.{rows_of_all}
use Rattle.query_meaning.specs.Keyed.{joined_by_keys, row_at_key}
use Rattle.query_meaning.specs.Read.{NamesItsPlaces, item_value_by_key, item_value_of, value_by_key}

-- a member that passes is there
below_by : {X : Type 0} (f : X → Bool) (xs : List X) (i : ℕ) → option_map_or f (slice_get xs i) false ≡ true → i < length xs
below_by f [] i is = cc
below_by f (x ∷ xs) zero is = omega arith
below_by f (x ∷ xs) (suc i) is = omega (arith, below_by f xs i is)

map_agree : {X Y : Type 0} (f g : X → Y) (xs : List X) → All (λ x. f x ≡ g x) xs → map f xs ≡ map g xs
map_agree f g [] same = refl
map_agree {X} f g (x ∷ xs) same =
    let P : X → Type 0 = λ x. f x ≡ g x in
    let first = All-head P x xs same in let rest = map_agree f g xs (All-tail P x xs same) in λ i. first i ∷ rest i

made_there : {X Y : Type 0} (f : X → Option Y) (xs : List X) (k : ℕ) (x : X) (y : Y) → k < length xs → get_or xs k x ≡ x → f x ≡ Some y
    → Contains (filter_map f xs) y
made_there f [] k x y low at is = absurd (omega arith)
made_there f (first ∷ xs) zero x y low at is = rw (ap f at ∙ is) (0, omega arith, refl)
made_there {X} {Y} f (first ∷ xs) (suc k) x y low at is = by (f first) (made_there f xs k x y (omega arith) at is)
  where
    by : (made : Option Y) → Contains (filter_map f xs) y → Contains (cons_option made (filter_map f xs)) y
    by None there = there
    by (Some z) there = Contains-append_right (z ∷ []) (filter_map f xs) y there

module _ (query : Query) (dims : List (Roomy DimensionRow)) (version : Version)
    (named : NamesItsPlaces query) where
  row_there : (dimension : ℕ) → Names query dimension
      → dimension_of (joined_by_keys (rows_of_all dims) query version) dimension ≡ row_at_key (rows_of_all dims) version dimension
  row_there dimension is =
      get_or-map-range_with_len (λ d. cond (names query d) (row_at_key (rows_of_all dims) version d) []) 0 (length query.choices) dimension dimension []
      (below_by is_named query.choices dimension is) (omega arith)
      ∙ ap (λ yes. cond yes (row_at_key (rows_of_all dims) version dimension) []) is

  place_same : (place : Place) → Contains (places_in query) place
      → value_by_key dims version place ≡ value_at place (joined_by_keys (rows_of_all dims) query version)
  place_same (Fact column) there = refl
  place_same (Dimension dimension column) there = ap (λ row. value_in row column) (sym (row_there dimension (named dimension column there)))

  -- the values at the places
  pub places_same : All (λ place. value_by_key dims version place ≡ value_at place (joined_by_keys (rows_of_all dims) query version)) (places_in query)
  places_same k d low = place_same (get_or (places_in query) k d) (Contains-get_or (places_in query) k d low)

  -- the key of a version's group
  pub key_same : map (value_by_key dims version) query.groups ≡ key_of query.groups (joined_by_keys (rows_of_all dims) query version)
  key_same =
      map_agree (value_by_key dims version) (λ place. value_at place (joined_by_keys (rows_of_all dims) query version)) query.groups
      (λ k d low. place_same (get_or query.groups k d)
      (Contains-append_left query.groups (filter_map place_of_item query.items) (get_or query.groups k d) (Contains-get_or query.groups k d low)))

  named_place : (item : Item) (place : Place) → Contains query.items item → place_of_item item ≡ Some place
      → value_by_key dims version place ≡ value_at place (joined_by_keys (rows_of_all dims) query version)
  named_place item place (k, low, at) is =
      place_same place (Contains-append_right query.groups (filter_map place_of_item query.items) place
      (made_there place_of_item query.items k item place low at is))

  item_same : (item : Item) → Contains query.items item
      → item_value_by_key dims version item ≡ item_value_of (joined_by_keys (rows_of_all dims) query version) item
  item_same (Plain place) there = named_place (Plain place) place there refl
  item_same CountAll there = refl
  item_same (Count place) there = named_place (Count place) place there refl
  item_same (Sum place) there = named_place (Sum place) place there refl
  item_same (Min place) there = named_place (Min place) place there refl
  item_same (Max place) there = named_place (Max place) place there refl

  -- the values of the items
  pub items_same : All (λ item. item_value_by_key dims version item ≡ item_value_of (joined_by_keys (rows_of_all dims) query version) item) query.items
  items_same k d low = item_same (get_or query.items k d) (Contains-get_or query.items k d low)
