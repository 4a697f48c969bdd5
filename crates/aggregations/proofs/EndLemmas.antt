-- What groups end as.
use Rattle.std.proofs.Common.{◌≡◌, ℕ, zero, suc, ◌==◌, ◌↔◌, Bool, true, false, ◌||◌, cond, List, [], ◌∷◌, length, map, Option, None, Some, refl, ap, sym, ◌∙◌, arith}
use Rattle.std.specs.Prelude.{Contains}
use Rattle.std.specs.List.{All, list_any, zip}
use Rattle.std.specs.Option.{option_and_then, option_map}
use Rattle.std.proofs.lemmas.Bool.Decides.{nat_tests}
use Rattle.std.proofs.lemmas.List.Elements.{All-cons, All-contains_itself, All-head, All-nil, All-tail, All-weaker}
use Rattle.star_values.specs.declared.cell.Cell.{Cell}
use Rattle.star_values.specs.declared.cell.Cell.TheVariants.{Null}
use Rattle.star_plan.specs.declared.answer.Answer.TheVariants as answer
use Rattle.star_plan.specs.declared.item.Item.{Item}
use Rattle.star_plan.specs.declared.item.Item.TheVariants.{Plain, CountAll, Count, Sum, Min, Max}
use Rattle.star_plan.specs.declared.place.Place.{Place}
use Rattle.star_plan.specs.Answer.{answer_of, cells_of, is_beyond, item_cell, number_cell, item_overflows, overflows, sum_at, sum_cell}
use Rattle.star_plan.specs.Groups.{groups_of, key_of, rows_of}
use Rattle.star_plan.specs.Joined.{Joined}
use Rattle.star_plan.specs.Test.{Query}
use Rattle.aggregations.specs.Grouped.{group_of, tally_of, Tally}
use Rattle.aggregations.specs.Finish.{answer_from, each_of, group_end, item_end, tally_end}
use Rattle.aggregations.proofs.KeyLemmas.{Key}

one_of_each : {Y : Type 0} (first rest : Bool) (y : Y) (ys : List Y)
    → option_and_then (λ z. option_map (λ zs. z ∷ zs) (cond rest None (Some ys))) (cond first None (Some y))
    ≡ cond (first || rest) None (Some (y ∷ ys))
one_of_each true rest y ys = refl
one_of_each false true y ys = refl
one_of_each false false y ys = refl

-- each is made where none is refused
each_or_none : {X Y : Type 0} (f : X → Option Y) (over : X → Bool) (g : X → Y) (xs : List X) → All (λ x. f x ≡ cond (over x) None (Some (g x))) xs
    → each_of f xs ≡ cond (list_any over xs) None (Some (map g xs))
each_or_none f over g [] is = refl
each_or_none {X} {Y} f over g (x ∷ xs) is =
    let P : X → Type 0 = λ y. f y ≡ cond (over y) None (Some (g y)) in
    let first = All-head P x xs is in
    let rest = each_or_none f over g xs (All-tail P x xs is) in
    (λ i. option_and_then (λ z. option_map (λ zs. z ∷ zs) (rest i)) (first i))
    ∙ one_of_each (over x) (list_any over xs) (g x) (map g xs)

pub each-map : {X Y Z : Type 0} (f : Y → Option Z) (g : X → Y) (xs : List X) → each_of f (map g xs) ≡ each_of (λ x. f (g x)) xs
each-map f g [] = refl
each-map f g (x ∷ xs) = ap (λ rest. option_and_then (λ z. option_map (λ zs. z ∷ zs) rest) (f (g x))) (each-map f g xs)

some_length : (n : ℕ) → (suc n == 0) ≡ false
some_length n = grind (arith, nat_tests)

-- a sum is null just over no rows
sum_is : (place : Place) (group : List Joined) → tally_end (length group == 0) (tally_of group (Sum place)) ≡ cond (is_beyond (sum_at place group)) None (Some (sum_cell place group))
sum_is place [] = refl
sum_is place (row ∷ group) =
    let some = some_length (length group) in
    ap (λ none. tally_end none (tally_of (row ∷ group) (Sum place))) some
    ∙ ap (λ none. cond (is_beyond (sum_at place (row ∷ group))) None (Some (cond none Null (number_cell (sum_at place (row ∷ group)))))) (sym some)

item_is : (places : List Place) (key : Key) (group : List Joined) (item : Item)
    → item_end (length group == 0) places key (item, tally_of group item) ≡ cond (item_overflows group item) None (Some (item_cell places key group item))
item_is places key group (Plain place) = refl
item_is places key group CountAll = refl
item_is places key group (Count place) = refl
item_is places key group (Sum place) = sum_is place group
item_is places key group (Min place) = refl
item_is places key group (Max place) = refl

zip-tallies : (items : List Item) (group : List Joined) → zip items (map (tally_of group) items) ≡ map {B = Item × Tally} (λ item. (item, tally_of group item)) items
zip-tallies [] group = refl
zip-tallies (item ∷ items) group = ap (λ rest. (item, tally_of group item) ∷ rest) (zip-tallies items group)

all_are : {X : Type 0} (P : X → Type 0) (xs : List X) → ((x : X) → P x) → All P xs
all_are P xs is = λ k d low. is _

group_is : (places : List Place) (items : List Item) (key : Key) (group : List Joined)
    → group_end (length group == 0) places items (record { key = key; tallies = map (tally_of group) items })
    ≡ cond (list_any (item_overflows group) items) None (Some (map (item_cell places key group) items))
group_is places items key group =
    ap (each_of (item_end (length group == 0) places key)) (zip-tallies items group)
    ∙ each-map (item_end (length group == 0) places key) (λ item. (item, tally_of group item)) items
    ∙ each_or_none (λ item. item_end (length group == 0) places key (item, tally_of group item)) (item_overflows group) (item_cell places key group) items
    (all_are _ items (item_is places key group))

answer_by : (over : Bool) (rows : List (List Cell)) → answer_from (cond over None (Some rows)) ≡ cond over answer.Overflow (answer.Rows rows)
answer_by true rows = refl
answer_by false rows = refl

-- there are no rows just where a group has none
abbrev SameNone : List Place → List Joined → Key → Type 0
SameNone places rows key = (length rows == 0) ≡ (length (rows_of places key rows) == 0)

all_pass : (rows : List Joined) → rows_of [] [] rows ≡ rows
all_pass [] = refl
all_pass (row ∷ rows) = ap (λ rest. row ∷ rest) (all_pass rows)

some_there : {X : Type 0} (xs : List X) (x : X) → Contains xs x → (length xs == 0) ≡ false
some_there [] x (k, low, at) = absurd (omega arith)
some_there (y ∷ xs) x there = some_length (length xs)

unmapped : {X Y : Type 0} (f : X → Y) (xs : List X) (y : Y) → Contains (map f xs) y → (x : X) × Contains xs x × (f x ≡ y)
unmapped f [] y (k, low, at) = absurd (omega arith)
unmapped f (x ∷ xs) y (zero, low, at) = (x, (0, omega arith, refl), at)
unmapped f (x ∷ xs) y (suc k, low, at) =
    let rest = unmapped f xs y (k, omega arith, at) in
    (rest.0, (suc rest.1.0, omega (arith, rest.1.1), rest.1.2), rest.2)

module _ (answers : (query : Query) (rows : List Joined) →
    answer_of query rows ≡ cond (overflows query rows) answer.Overflow (answer.Rows (map (cells_of query rows) (groups_of query.groups rows))))
    (keys : (place : Place) (places : List Place) (rows : List Joined) (key : Key) →
    Contains (groups_of (place ∷ places) rows) key ↔ Contains (map (key_of (place ∷ places)) rows) key)
    (members : (places : List Place) (key : Key) (rows : List Joined) (row : Joined) →
    Contains (rows_of places key rows) row ↔ (Contains rows row × (key_of places row ≡ key))) where
  same_none : (places : List Place) (rows : List Joined) → All (SameNone places rows) (groups_of places rows)
  same_none [] rows =
      All-cons (SameNone [] rows) [] [] (ap (λ (all : List Joined). length all == 0) (sym (all_pass rows))) (All-nil (SameNone [] rows))
  same_none (place ∷ places) rows =
      All-weaker (Contains (groups_of (place ∷ places) rows)) (SameNone (place ∷ places) rows)
      (λ key there.
      let row = unmapped (key_of (place ∷ places)) rows key ((keys place places rows key).0 there) in
      some_there rows row.0 row.1 ∙ sym (some_there (rows_of (place ∷ places) key rows) row.0 ((members (place ∷ places) key rows row.0).1 (row.1, row.2))))
      (groups_of (place ∷ places) rows) (All-contains_itself (groups_of (place ∷ places) rows))

  -- the groups of rows, in the order of their keys, end as the answer
  pub groups_end : (query : Query) (rows : List Joined)
      → answer_from (each_of (group_end (length rows == 0) query.groups query.items) (map (group_of query rows) (groups_of query.groups rows))) ≡ answer_of query rows
  groups_end query rows =
      let ended : Key → Option (List Cell) = λ key. group_end (length rows == 0) query.groups query.items (group_of query rows key) in
      let over : Key → Bool = λ key. list_any (item_overflows (rows_of query.groups key rows)) query.items in
      let all = groups_of query.groups rows in
      let each : All (λ key. ended key ≡ cond (over key) None (Some (cells_of query rows key))) all =
      All-weaker (SameNone query.groups rows) (λ key. ended key ≡ cond (over key) None (Some (cells_of query rows key)))
      (λ key none. ap (λ no_rows. group_end no_rows query.groups query.items (group_of query rows key)) none
      ∙ group_is query.groups query.items key (rows_of query.groups key rows))
      all (same_none query.groups rows) in
      ap answer_from (each-map (group_end (length rows == 0) query.groups query.items) (group_of query rows) all
      ∙ each_or_none ended over (cells_of query rows) all each)
      ∙ answer_by (overflows query rows) (map (cells_of query rows) all)
      ∙ sym (answers query rows)
