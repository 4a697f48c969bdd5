-- What is kept of groups of one row more.
use Rattle.std.proofs.Common.{◌≡◌, Bool, true, false, cond, List, [], ◌∷◌, ◌++◌, Some, refl, ap, sym, ◌∙◌}
use Rattle.std.specs.Option.{option_map_or}
use Rattle.std.specs.Ordering.{eq_by_cmp, is_eq}
use Rattle.star_values.specs.declared.value.Value as cell
use Rattle.star_values.specs.Value.{row_cmp}
use Rattle.star_values.specs.OrderLaws.{row_cmp-decides}
use Rattle.star_plan.specs.declared.item.Item.{Item}
use Rattle.star_plan.specs.declared.place.Place.{Place}
use Rattle.star_plan.specs.Groups.{key_cmp, key_of, rows_of}
use Rattle.star_plan.specs.Joined.{Joined}
use Rattle.star_plan.specs.Test.{Query}
use Rattle.query_meaning.specs.Kept.{group_of, kept_group}
use Rattle.query_meaning.specs.Read.{item_value_of}
use Rattle.query_meaning.specs.Tally.{taken, tallies_of}

some_rows : (items : List Item) (group : List Joined) (row : Joined) → kept_group items (group ++ row ∷ []) ≡ Some (tallies_of items (group ++ row ∷ []))
some_rows items [] row = refl
some_rows items (first ∷ group) row = refl

tallies_so_far : (items : List Item) (group : List Joined) → option_map_or (λ tallies. tallies) (kept_group items group) (tallies_of items []) ≡ tallies_of items group
tallies_so_far items [] = refl
tallies_so_far items (first ∷ group) = refl

module _ (laws : (places : List Place) (key : List cell.Value) (rows : List Joined) (row : Joined) →
    rows_of places key (rows ++ row ∷ []) ≡ cond (is_eq (key_cmp (key_of places row) key)) (rows_of places key rows ++ row ∷ []) (rows_of places key rows))
    (tallies_more : (items : List Item) (rows : List Joined) (row : Joined) → taken (item_value_of row) items (tallies_of items rows) ≡ tallies_of items (rows ++ row ∷ [])) where
  in_group : (items : List Item) (group : List Joined) (row : Joined)
      → kept_group items (group ++ row ∷ []) ≡ Some (taken (item_value_of row) items (option_map_or (λ tallies. tallies) (kept_group items group) (tallies_of items [])))
  in_group items group row =
      some_rows items group row
      ∙ ap Some (sym (tallies_more items group row) ∙ ap (taken (item_value_of row) items) (sym (tallies_so_far items group)))

  by : (query : Query) (rows : List Joined) (row : Joined) (key : List cell.Value) (same : Bool) → eq_by_cmp row_cmp (key_of query.groups row) key ≡ same
      → kept_group query.items (cond same (rows_of query.groups key rows ++ row ∷ []) (rows_of query.groups key rows))
      ≡ cond same (Some (taken (item_value_of row) query.items
      (option_map_or (λ tallies. tallies) (group_of query rows (key_of query.groups row)) (tallies_of query.items [])))) (group_of query rows key)
  by query rows row key true is =
      in_group query.items (rows_of query.groups key rows) row
      ∙ ap (λ k. Some (taken (item_value_of row) query.items (option_map_or (λ tallies. tallies) (group_of query rows k) (tallies_of query.items []))))
      (sym ((row_cmp-decides (key_of query.groups row) key).0 is))
  by query rows row key false is = refl

  pub group_more : (query : Query) (rows : List Joined) (row : Joined) (key : List cell.Value) →
      group_of query (rows ++ row ∷ []) key
      ≡ cond (eq_by_cmp row_cmp (key_of query.groups row) key) (Some (taken (item_value_of row) query.items
      (option_map_or (λ tallies. tallies) (group_of query rows (key_of query.groups row)) (tallies_of query.items [])))) (group_of query rows key)
  group_more query rows row key =
      ap (kept_group query.items) (laws query.groups key rows row)
      ∙ by query rows row key (eq_by_cmp row_cmp (key_of query.groups row) key) refl
