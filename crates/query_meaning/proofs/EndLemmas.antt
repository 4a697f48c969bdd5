-- What tallies end as.
use Rattle.std.proofs.Common.{◌≡◌, ℕ, suc, ◌==◌, Bool, true, false, ◌||◌, cond, List, [], ◌∷◌, length, map, Option, None, Some, refl, ap, sym, subst, ◌∙◌, arith}
use Rattle.std.specs.Prelude.{Contains, ◌↔◌}
use Rattle.std.specs.Cmp.{IsTotalOrder}
use Rattle.std.specs.List.{AllPairs, IsDistinct, list_any, zip}
use Rattle.std.specs.List.Sorted.{IsSorted, IsStrictlySortedBy}
use Rattle.std.specs.Map.{keys_of, lookup}
use Rattle.std.specs.Option.{option_and_then, option_map}
use Rattle.std.specs.Ordering.{eq_by_cmp}
use Rattle.std.specs.declared.cmp.Ordering.TheVariants.{Less, Equal}
use Rattle.std.proofs.lemmas.Bool.Decides.{nat_tests}
use Rattle.star_values.specs.declared.value.Value as cell
use Rattle.star_values.specs.declared.cell.Cell.{Cell}
use Rattle.star_values.specs.Value.{row_cmp}
use Rattle.star_plan.specs.declared.answer.Answer.TheVariants.{Rows, Overflow}
use Rattle.star_plan.specs.declared.item.Item.{Item}
use Rattle.star_plan.specs.declared.item.Item.TheVariants.{Plain, CountAll, Count, Sum, Min, Max}
use Rattle.star_plan.specs.declared.place.Place.{Place}
use Rattle.star_plan.specs.Answer.{answer_of, cells_of, is_beyond, item_cell, item_overflows, number_cell, overflows, sum_at, sum_cell}
use Rattle.star_plan.specs.Groups.{groups_of, key_cmp, key_of, rows_of}
use Rattle.star_plan.specs.Joined.{Joined}
use Rattle.star_plan.specs.Test.{Query}
use Rattle.query_meaning.specs.Finish.{all_of, answer_from, group_end, item_end, sum_end}
use Rattle.query_meaning.specs.Kept.{group_of, kept_group}
use Rattle.query_meaning.specs.Tally.{tallies_of, tally_of}
use Rattle.query_meaning.specs.declared.tally.Tally.{Tally}
use Rattle.query_meaning.proofs.SortedLemmas.{ascending_keys, ascending_pairs, contains_map, contains_unmap, found_in, keys-pairs_of, missing_in, same_entries}

-- Cells, or a sum that is too large.

one_of_all : {Y : Type 0} (first rest : Bool) (y : Y) (ys : List Y)
    → option_and_then (λ z. option_map (λ zs. z ∷ zs) (cond rest None (Some ys))) (cond first None (Some y))
    ≡ cond (first || rest) None (Some (y ∷ ys))
one_of_all true rest y ys = refl
one_of_all false true y ys = refl
one_of_all false false y ys = refl

-- all are made where none is refused
all_or_none : {X Y : Type 0} (f : X → Option Y) (over : X → Bool) (g : X → Y) (xs : List X) → ((x : X) → f x ≡ cond (over x) None (Some (g x)))
    → all_of f xs ≡ cond (list_any over xs) None (Some (map g xs))
all_or_none f over g [] is = refl
all_or_none f over g (x ∷ xs) is =
    (λ i. option_and_then (λ z. option_map (λ zs. z ∷ zs) (all_or_none f over g xs is i)) (is x i))
    ∙ one_of_all (over x) (list_any over xs) (g x) (map g xs)

not_zero : (n : ℕ) → (suc n == 0) ≡ false
not_zero n = grind (arith, nat_tests)

by_rows : (none beyond : Bool) (cell empty : Cell) → none ≡ false → cond none (Some empty) (cond beyond None (Some cell)) ≡ cond beyond None (Some (cond none empty cell))
by_rows true beyond cell empty e = cc
by_rows false beyond cell empty e = refl

sum_is : (place : Place) (rows : List Joined)
    → sum_end (record { terms = length rows; total = sum_at place rows }) ≡ cond (is_beyond (sum_at place rows)) None (Some (sum_cell place rows))
sum_is place [] = refl
sum_is place (row ∷ rows) = by_rows (suc (length rows) == 0) (is_beyond (sum_at place (row ∷ rows))) (number_cell (sum_at place (row ∷ rows))) _ (not_zero (length rows))

item_is : (places : List Place) (key : List cell.Value) (rows : List Joined) (item : Item)
    → item_end places key (item, tally_of rows item) ≡ cond (item_overflows rows item) None (Some (item_cell places key rows item))
item_is places key rows (Plain place) = refl
item_is places key rows CountAll = refl
item_is places key rows (Count place) = refl
item_is places key rows (Sum place) = sum_is place rows
item_is places key rows (Min place) = refl
item_is places key rows (Max place) = refl

zip-tallies : (items : List Item) (rows : List Joined) → zip items (tallies_of items rows) ≡ map {B = Item × Tally} (λ item. (item, tally_of rows item)) items
zip-tallies [] rows = refl
zip-tallies (item ∷ items) rows = ap (λ rest. (item, tally_of rows item) ∷ rest) (zip-tallies items rows)

all-map : {X Y Z : Type 0} (f : Y → Option Z) (g : X → Y) (xs : List X) → all_of f (map g xs) ≡ all_of (λ x. f (g x)) xs
all-map f g [] = refl
all-map f g (x ∷ xs) = ap (λ rest. option_and_then (λ z. option_map (λ zs. z ∷ zs) rest) (f (g x))) (all-map f g xs)

group_is : (places : List Place) (items : List Item) (key : List cell.Value) (rows : List Joined)
    → group_end places items (key, tallies_of items rows) ≡ cond (list_any (item_overflows rows) items) None (Some (map (item_cell places key rows) items))
group_is places items key rows =
    ap (all_of (item_end places key)) (zip-tallies items rows)
    ∙ all-map (item_end places key) (λ item. (item, tally_of rows item)) items
    ∙ all_or_none (λ item. item_end places key (item, tally_of rows item)) (item_overflows rows) (item_cell places key rows) items (item_is places key rows)

answer_by : (over : Bool) (rows : List (List Cell)) → answer_from (cond over None (Some rows)) ≡ cond over Overflow (Rows rows)
answer_by true rows = refl
answer_by false rows = refl

-- the tallies of the group of a key
abbrev tallies_at : Query → List Joined → List cell.Value → List Tally
tallies_at query rows key = tallies_of query.items (rows_of query.groups key rows)

-- the groups with their tallies
abbrev ended_groups : Query → List Joined → List (List cell.Value × List Tally)
ended_groups query rows = map (λ key. (key, tallies_at query rows key)) (groups_of query.groups rows)

module _ (answers : (query : Query) (rows : List Joined) →
    answer_of query rows ≡ cond (overflows query rows) Overflow (Rows (map (cells_of query rows) (groups_of query.groups rows)))) where
  groups_answer : (query : Query) (rows : List Joined)
      → answer_from (all_of (group_end query.groups query.items) (ended_groups query rows)) ≡ answer_of query rows
  groups_answer query rows =
      let h : List cell.Value → List cell.Value × List Tally = λ key. (key, tallies_at query rows key) in
      let keys = groups_of query.groups rows in
      ap answer_from (all-map (group_end query.groups query.items) h keys
      ∙ all_or_none (λ key. group_end query.groups query.items (h key))
      (λ key. list_any (item_overflows (rows_of query.groups key rows)) query.items) (cells_of query rows) keys
      (λ key. group_is query.groups query.items key (rows_of query.groups key rows)))
      ∙ answer_by (overflows query rows) (map (cells_of query rows) keys)
      ∙ sym (answers query rows)

  all_pass : (rows : List Joined) → rows_of [] [] rows ≡ rows
  all_pass [] = refl
  all_pass (row ∷ rows) = ap (λ rest. row ∷ rest) (all_pass rows)

  one_group : (places : List Place) (items : List Item) (rows : List Joined) → places ≡ []
      → map {B = List cell.Value × List Tally} (λ key. (key, tallies_of items (rows_of places key rows))) (groups_of places rows) ≡ ([], tallies_of items rows) ∷ []
  one_group [] items rows e = ap {B = List (List cell.Value × List Tally)} (λ group. ([], tallies_of items group) ∷ []) (all_pass rows)
  one_group (place ∷ places) items rows e = cc

  -- without GROUP BY
  pub whole_answer : (query : Query) (rows : List Joined) → query.groups ≡ []
      → answer_from (all_of (group_end query.groups query.items) (([], tallies_of query.items rows) ∷ [])) ≡ answer_of query rows
  whole_answer query rows alone =
      ap (λ entries. answer_from (all_of (group_end query.groups query.items) entries)) (sym (one_group query.groups query.items rows alone))
      ∙ groups_answer query rows

  module _ (ascending : (places : List Place) (rows : List Joined) → AllPairs (λ key later. key_cmp key later ≡ Less) (groups_of places rows))
      (keys : (place : Place) (places : List Place) (rows : List Joined) (key : List cell.Value) →
      Contains (groups_of (place ∷ places) rows) key ↔ Contains (map (key_of (place ∷ places)) rows) key)
      (members : (places : List Place) (key : List cell.Value) (rows : List Joined) (row : Joined) →
      Contains (rows_of places key rows) row ↔ (Contains rows row × (key_of places row ≡ key)))
      (total : IsTotalOrder row_cmp) (same : (x y : List cell.Value) → (row_cmp x y ≡ Equal) ↔ (x ≡ y)) where
    exact : (x y : List cell.Value) → row_cmp x y ≡ Equal → x ≡ y
    exact x y e = (same x y).0 e

    there_by : (places : List Place) (rows : List Joined) (key : List cell.Value) (row : Joined) → Contains (rows_of places key rows) row
        → Contains (map (key_of places) rows) key
    there_by places rows key row there =
        let is = (members places key rows row).0 there in
        subst (Contains (map (key_of places) rows)) is.1 (contains_map (key_of places) rows row is.0)

    nothing_in : (row : Joined) → ¬ (Contains [] row)
    nothing_in row (k, low, at) = absurd (omega arith)

    found_by : (items : List Item) (place : Place) (places : List Place) (rows : List Joined) (key : List cell.Value) (group : List Joined)
        → rows_of (place ∷ places) key rows ≡ group
        → kept_group items group
        ≡ lookup (eq_by_cmp row_cmp key) (map {B = List cell.Value × List Tally} (λ k. (k, tallies_of items (rows_of (place ∷ places) k rows))) (groups_of (place ∷ places) rows))
    found_by items place places rows key [] is =
        sym (missing_in total exact (λ k. tallies_of items (rows_of (place ∷ places) k rows)) (groups_of (place ∷ places) rows) key
        (λ there. let row = contains_unmap (key_of (place ∷ places)) rows key ((keys place places rows key).0 there) in
        nothing_in row.0 (subst (λ group. Contains group row.0) is ((members (place ∷ places) key rows row.0).1 (row.1, row.2)))))
    found_by items place places rows key (first ∷ group) is =
        ap (λ (all : List Joined). Some (tallies_of items all)) (sym is)
        ∙ sym (found_in total exact (λ k. tallies_of items (rows_of (place ∷ places) k rows)) (groups_of (place ∷ places) rows) key
        ((keys place places rows key).1 (there_by (place ∷ places) rows key first (subst (λ all. Contains all first) (sym is) (0, omega arith, refl)))))

    sorted_by : (items : List Item) (place : Place) (places : List Place) (rows : List Joined) (entries : List (List cell.Value × List Tally))
        → IsSorted row_cmp (keys_of entries) → IsDistinct (eq_by_cmp row_cmp) (keys_of entries)
        → ((key : List cell.Value) → lookup (eq_by_cmp row_cmp key) entries ≡ kept_group items (rows_of (place ∷ places) key rows))
        → entries ≡ map {B = List cell.Value × List Tally} (λ k. (k, tallies_of items (rows_of (place ∷ places) k rows))) (groups_of (place ∷ places) rows)
    sorted_by items place places rows entries sorted distinct found =
        let f : List cell.Value → List Tally = λ k. tallies_of items (rows_of (place ∷ places) k rows) in
        let ks = groups_of (place ∷ places) rows in
        same_entries total exact entries (map {B = List cell.Value × List Tally} (λ k. (k, f k)) ks) (ascending_keys total (keys_of entries) [] sorted distinct)
        (subst (IsStrictlySortedBy row_cmp) (sym (keys-pairs_of total exact f ks)) (ascending_pairs total ks [] (ascending (place ∷ places) rows)))
        (λ key. found key ∙ found_by items place places rows key (rows_of (place ∷ places) key rows) refl)

    by_places : (query : Query) (place : Place) (places all : List Place) (rows : List Joined) (entries : List (List cell.Value × List Tally))
        → all ≡ place ∷ places → IsSorted row_cmp (keys_of entries) → IsDistinct (eq_by_cmp row_cmp) (keys_of entries)
        → ((key : List cell.Value) → lookup (eq_by_cmp row_cmp key) entries ≡ kept_group query.items (rows_of all key rows))
        → entries ≡ map {B = List cell.Value × List Tally} (λ k. (k, tallies_of query.items (rows_of all k rows))) (groups_of all rows)
    by_places query place places [] rows entries e = cc
    by_places query place places (other ∷ others) rows entries e = sorted_by query.items other others rows entries

    -- with GROUP BY
    pub sorted_answer : (query : Query) (place : Place) (places : List Place) (rows : List Joined) (entries : List (List cell.Value × List Tally))
        → query.groups ≡ place ∷ places → IsSorted row_cmp (keys_of entries) → IsDistinct (eq_by_cmp row_cmp) (keys_of entries)
        → ((key : List cell.Value) → lookup (eq_by_cmp row_cmp key) entries ≡ group_of query rows key)
        → answer_from (all_of (group_end query.groups query.items) entries) ≡ answer_of query rows
    sorted_answer query place places rows entries e sorted distinct found =
        ap (λ all. answer_from (all_of (group_end query.groups query.items) all)) (by_places query place places query.groups rows entries e sorted distinct found)
        ∙ groups_answer query rows
