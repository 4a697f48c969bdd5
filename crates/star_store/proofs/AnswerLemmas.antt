-- The answer of a query has rows as a reply may have them, where the joined rows have values and are few.
use Rattle.std.proofs.Common.{◌≡◌, ℕ, suc, ◌+◌, ◌<◌, ◌≤◌, ◌^◌, Bool, true, false, ◌||◌, ◌==◌, List, [], ◌∷◌, length, Option, Some, None, All, ℤ, pos, negsuc, FitsSigned, w64, refl, arith}
use Rattle.std.specs.Prelude.{IfSome, int_lt, map, fold, slice_index_or}
use Rattle.std.specs.List.{list_any, zip}
use Rattle.std.specs.Map.{lookup}
use Rattle.std.specs.Ordering.{ord_min, flip_args, is_eq, match_ordering}
use Rattle.std.specs.declared.cmp.Ordering.{Ordering}
use Rattle.std.specs.declared.cmp.Ordering.TheVariants.{Less, Equal, Greater}
use Rattle.std.specs.BTreeSet.{insert_key}
use Rattle.std.proofs.lemmas.Bool.Decides.{nat_tests}
use Rattle.std.proofs.lemmas.List.Elements.{All-cons, All-filter, All-head, All-map, All-nil, All-tail}
use Rattle.star_values.specs.Value.{value_cmp}
use Rattle.star_values.specs.declared.value.Value.{Value}
use Rattle.star_values.specs.declared.value.Value.TheVariants.{Int}
use Rattle.star_values.specs.declared.cell.Cell.TheVariants.{Null}
use Rattle.star_plan.specs.Answer.{answer_of, cell_of, cells_of, first_by, greatest_at, greatest_integer, is_beyond, item_cell, item_overflows, key_value, least_at, least_integer, number_cell, overflows, same_place, sum_at}
use Rattle.star_plan.specs.Groups.{groups_of, key_cmp, key_of, rows_of}
use Rattle.star_plan.specs.Joined.{Joined, dimension_of, value_at}
use Rattle.star_plan.specs.Test.{Query}
use Rattle.star_plan.specs.declared.item.Item.{Item}
use Rattle.star_plan.specs.declared.item.Item.TheVariants.{Plain, CountAll, Count, Sum, Min, Max}
use Rattle.star_plan.specs.declared.place.Place.{Place}
use Rattle.star_plan.specs.declared.place.Place.TheVariants.{Fact, Dimension}
use Rattle.reply_text.specs.Formed.{IsCell, IsRow, IsWellFormed}
use Rattle.star_store.specs.Effect.{answer_reply}
use Rattle.star_store.proofs.ValueLemmas.{AreValues, IsValue, at-or, either, filter-short, length-map, zero-fits}

-- a joined row has values
pub record HasValues (row : Joined) : Type 0 where
  pub fact : AreValues row.fact
  pub dimensions : All AreValues row.dimensions

value_at-is : (place : Place) (row : Joined) → HasValues row → IsValue (value_at place row)
value_at-is (Fact column) row h = at-or IsValue row.fact column (Int (pos 0)) h.fact zero-fits
value_at-is (Dimension dimension column) row h =
    at-or IsValue (dimension_of row dimension) column (Int (pos 0)) (at-or AreValues row.dimensions dimension [] h.dimensions (All-nil IsValue)) zero-fits

values_at : (place : Place) (rows : List Joined) → All HasValues rows → All IsValue (map (value_at place) rows)
values_at place rows h = All-map IsValue (value_at place) rows (λ k d low. value_at-is place (slice_index_or rows k d) (h k d low))

-- ---- the keys of groups

inserted : {A : Type 0} (P : A → Type 0) (cmp : A → A → Ordering) (xs : List A) (k : A) → All P xs → P k → All P (insert_key cmp xs k)
inserted P cmp [] k h p = All-cons P k [] p h
inserted {A} P cmp (x ∷ xs) k h p =
    by (cmp k x) _ _ _ (All-cons P k (x ∷ xs) p h) h (All-cons P x (insert_key cmp xs k) (All-head P x xs h) (inserted P cmp xs k (All-tail P x xs h) p))
  where
    by : (o : Ordering) (a b c : List A) → All P a → All P b → All P c → All P (match_ordering o a b c)
    by Less a b c p q r = p
    by Equal a b c p q r = q
    by Greater a b c p q r = r

inserted_all : {A : Type 0} (P : A → Type 0) (cmp : A → A → Ordering) (keys more : List A) → All P keys → All P more → All P (fold (insert_key cmp) keys more)
inserted_all P cmp keys [] h p = h
inserted_all P cmp keys (k ∷ more) h p = inserted_all P cmp (insert_key cmp keys k) more (inserted P cmp keys k h (All-head P k more p)) (All-tail P k more p)

insert-short : {A : Type 0} (cmp : A → A → Ordering) (xs : List A) (k : A) → length (insert_key cmp xs k) ≤ suc (length xs)
insert-short cmp [] k = omega arith
insert-short {A} cmp (x ∷ xs) k = by (cmp k x) (insert-short cmp xs k)
  where
    by : (o : Ordering) → length (insert_key cmp xs k) ≤ suc (length xs) → length (match_ordering o (k ∷ x ∷ xs) (x ∷ xs) (x ∷ insert_key cmp xs k)) ≤ suc (suc (length xs))
    by Less h = omega arith
    by Equal h = omega arith
    by Greater h = omega (arith, h)

inserts-short : {A : Type 0} (cmp : A → A → Ordering) (keys more : List A) → length (fold (insert_key cmp) keys more) ≤ length keys + length more
inserts-short cmp keys [] = omega arith
inserts-short cmp keys (k ∷ more) = omega (arith, inserts-short cmp (insert_key cmp keys k) more, insert-short cmp keys k)

key-values : (places : List Place) (row : Joined) → HasValues row → AreValues (key_of places row)
key-values places row h = All-map IsValue (λ place. value_at place row) places (λ k d low. value_at-is (slice_index_or places k d) row h)

groups-values : (places : List Place) (rows : List Joined) → All HasValues rows → All AreValues (groups_of places rows)
groups-values [] rows h = All-cons AreValues [] [] (All-nil IsValue) (All-nil AreValues)
groups-values (place ∷ places) rows h =
    inserted_all AreValues key_cmp [] (map (key_of (place ∷ places)) rows) (All-nil AreValues)
    (All-map AreValues (key_of (place ∷ places)) rows (λ k d low. key-values (place ∷ places) (slice_index_or rows k d) (h k d low)))

groups-few : (places : List Place) (rows : List Joined) → length (groups_of places rows) ≤ suc (length rows)
groups-few [] rows = omega arith
groups-few (place ∷ places) rows =
    omega (arith, inserts-short key_cmp [] (map (key_of (place ∷ places)) rows), length-map (key_of (place ∷ places)) rows)

-- ---- cells

key_value-is : (place : Place) (places : List Place) (key : List Value) → AreValues key → IfSome (key_value places key place) IsValue
key_value-is place [] key h = tt
key_value-is place (other ∷ places) [] h = tt
key_value-is place (other ∷ places) (value ∷ key) h =
    either (λ o. IfSome o IsValue) (same_place place other) (Some value) (lookup (same_place place) (zip places key))
    (All-head IsValue value key h) (key_value-is place places key (All-tail IsValue value key h))

cell-is : (o : Option Value) → IfSome o IsValue → IsCell (cell_of o)
cell-is None h = tt
cell-is (Some value) h = h

firsts : (cmp : Value → Value → Ordering) (least : Value) (values : List Value) → IsValue least → All IsValue values → IsValue (fold (ord_min cmp) least values)
firsts cmp least [] p h = p
firsts cmp least (value ∷ values) p h =
    firsts cmp (ord_min cmp least value) values (either IsValue _ value least (All-head IsValue value values h) p) (All-tail IsValue value values h)

first-is : (cmp : Value → Value → Ordering) (values : List Value) → All IsValue values → IfSome (first_by cmp values) IsValue
first-is cmp [] h = tt
first-is cmp (value ∷ values) h = firsts cmp value values (All-head IsValue value values h) (All-tail IsValue value values h)

or-parts : (a b : Bool) → (a || b) ≡ false → (a ≡ false) × (b ≡ false)
or-parts false b h = (refl, h)
or-parts true b h = absurd (cc (h, h))

sum-fits : (n : ℤ) → is_beyond n ≡ false → FitsSigned w64 n
sum-fits (pos n) h = let small = (or-parts (int_lt (pos n) least_integer) (int_lt greatest_integer (pos n)) h).1 in record { sfits = grind (arith, nat_tests) }
sum-fits (negsuc n) h = let small = (or-parts (int_lt (negsuc n) least_integer) (int_lt greatest_integer (negsuc n)) h).0 in record { sfits = grind (arith, nat_tests) }

item_cell-is : (places : List Place) (key : List Value) (rows : List Joined) (item : Item) → AreValues key → All HasValues rows → length rows < 2 ^ 63
    → item_overflows rows item ≡ false → IsCell (item_cell places key rows item)
item_cell-is places key rows (Plain place) h values few fits = cell-is (key_value places key place) (key_value-is place places key h)
item_cell-is places key rows CountAll h values few fits = record { sfits = few }
item_cell-is places key rows (Count place) h values few fits = record { sfits = few }
item_cell-is places key rows (Sum place) h values few fits =
    either IsCell (length rows == 0) Null (number_cell (sum_at place rows)) tt (sum-fits (sum_at place rows) fits)
item_cell-is places key rows (Min place) h values few fits = cell-is (least_at place rows) (first-is value_cmp (map (value_at place) rows) (values_at place rows values))
item_cell-is places key rows (Max place) h values few fits =
    cell-is (greatest_at place rows) (first-is (flip_args value_cmp) (map (value_at place) rows) (values_at place rows values))

any-none : {A : Type 0} (f : A → Bool) (xs : List A) → list_any f xs ≡ false → All (λ x. f x ≡ false) xs
any-none f [] h = All-nil (λ x. f x ≡ false)
any-none f (x ∷ xs) h =
    let parts = or-parts (f x) (list_any f xs) h in All-cons (λ y. f y ≡ false) x xs parts.0 (any-none f xs parts.1)

cells-row : (query : Query) (rows : List Joined) (key : List Value) → AreValues key → All HasValues rows → length rows < 2 ^ 63
    → list_any (item_overflows (rows_of query.groups key rows)) query.items ≡ false → IsRow (length query.items) (cells_of query rows key)
cells-row query rows key h values few fits =
    let group = rows_of query.groups key rows in
    let test = λ (row : Joined). is_eq (key_cmp (key_of query.groups row) key) in
    record {
      wide = length-map (item_cell query.groups key group) query.items;
      cells = All-map IsCell (item_cell query.groups key group) query.items (λ k d low.
          item_cell-is query.groups key group (slice_index_or query.items k d) h (All-filter test HasValues rows values) (omega (arith, few, filter-short test rows))
          (any-none (item_overflows group) query.items fits k d low));
    }

formed-by : (over : Bool) (query : Query) (rows : List Joined) (snapshot : ℕ) → overflows query rows ≡ over → snapshot < 2 ^ 64 → 0 < length query.items
    → length rows < 2 ^ 63 → All HasValues rows → IsWellFormed (answer_reply snapshot (answer_of query rows))
unfolding answer_of
formed-by true query rows snapshot e fits some few values = rw e fits
formed-by false query rows snapshot e fits some few values = rw e (
  fits,
  record {
    fits = omega (arith, few, groups-few query.groups rows, length-map (cells_of query rows) (groups_of query.groups rows));
    even = (
      length query.items,
      some,
      All-map (IsRow (length query.items)) (cells_of query rows) (groups_of query.groups rows) (λ k d low.
          cells-row query rows (slice_index_or (groups_of query.groups rows) k d) (groups-values query.groups rows values k d low) values few
          (any-none (λ key. list_any (item_overflows (rows_of query.groups key rows)) query.items) (groups_of query.groups rows) e k d low)),
    );
  },
)

-- the reply of an answer is well-formed
pub answer-formed : (query : Query) (rows : List Joined) (snapshot : ℕ) → snapshot < 2 ^ 64 → 0 < length query.items
    → length rows < 2 ^ 63 → All HasValues rows → IsWellFormed (answer_reply snapshot (answer_of query rows))
answer-formed query rows snapshot fits some few values = formed-by (overflows query rows) query rows snapshot refl fits some few values
