-- The groups of rows and their cells: whose they are, and that the order of the rows has no influence.
use Rattle.std.proofs.Common.{◌≡◌, ◌↔◌, ℕ, zero, suc, ◌<◌, Bool, true, false, cond, ◌==◌, List, [], ◌∷◌, length, map, get_or, Some, refl, ap, sym, ◌∙◌, subst, arith, ℤ, pos, negsuc, ◌+ℤ◌, FitsSigned, w64}
use Rattle.std.specs.Prelude.{IsTrue}
use Rattle.std.specs.Bool.{Decides}
use Rattle.std.specs.List.{All, AllPairs, Any, Contains, filter, list_any, range_with_len}
use Rattle.std.proofs.lemmas.List.FromFn.{get_or-range_with_len, length-range_with_len}
use Rattle.std.specs.List.Sorted.{IsPermutation}
use Rattle.std.specs.BTreeSet.{insert_key}
use Rattle.std.specs.Cmp.{IsTotalOrder}
use Rattle.std.specs.FinMap.{slice_cmp-IsAntisymmetric}
use Rattle.std.specs.Ordering.{flip_args, is_eq}
use Rattle.std.specs.declared.cmp.Ordering.{Ordering}
use Rattle.std.specs.declared.cmp.Ordering.TheVariants.{Less, Equal, Greater}
use Rattle.std.proofs.lemmas.Cmp.{back_total, lists_total, tied_itself}
use Rattle.std.proofs.lemmas.Bool.Decides.{nat_tests, Decides-and, Decides-eqb}
use Rattle.std.proofs.lemmas.Int.{ints}
use Rattle.std.proofs.lemmas.List.Elements.{All-nil, All-cons, All-contains, All-contains_itself, All-filter, All-weaker, filter_passes}
use Rattle.std.proofs.lemmas.List.Sorted.{IsPermutation-map, length_permutation}
use Rattle.star_values.specs.declared.value.Value.{Value}
use Rattle.star_values.specs.Value.{value_cmp}
use Rattle.star_plan.specs.declared.answer.Answer.TheVariants.{Rows, Overflow}
use Rattle.star_values.specs.declared.cell.Cell.TheVariants.{Null, Full}
use Rattle.star_plan.specs.declared.item.Item.{Item}
use Rattle.star_plan.specs.declared.item.Item.TheVariants.{Plain, CountAll, Count, Sum, Min, Max}
use Rattle.star_plan.specs.declared.place.Place.{Place}
use Rattle.star_plan.specs.declared.place.Place.TheVariants.{Fact, Dimension}
use Rattle.star_plan.specs.Joined.{Joined, is_kept, kept_of, takes_at, value_at}
use Rattle.star_plan.specs.Test.{Query}
use Rattle.star_plan.specs.Truth.{passes}
use Rattle.star_plan.specs.Groups.{groups_of, key_cmp, key_of, keys_of, rows_of}
use Rattle.star_plan.specs.Answer.{answer_of, cell_of, cells_of, integer_of, is_beyond, item_cell, item_overflows, key_value, number_cell, overflows, same_place, sum_at, sum_cell}
use Rattle.star_plan.proofs.FirstLemmas.{first-IsPermutation}
use Rattle.star_plan.proofs.KeysLemmas.{insert_key-commutes, keys_are_those, keys_ascend}
use Rattle.star_plan.proofs.PermutationLemmas.{filter-IsPermutation, fold-IsPermutation}
use Rattle.star_plan.proofs.TruthLemmas.{any_alike, Decides-list_all, Decides-list_any}

sum-IsPermutation : (place : Place) (xs ys : List Joined) → IsPermutation xs ys → sum_at place xs ≡ sum_at place ys
sum-IsPermutation place xs ys h =
    let integer_at : Joined → ℤ = λ row. integer_of (value_at place row) in
    fold-IsPermutation ◌+ℤ◌ (λ sum m n. omega (arith, ints)) (map integer_at xs) (map integer_at ys) (IsPermutation-map integer_at xs ys h) (pos 0)

sum_cell-IsPermutation : (place : Place) (xs ys : List Joined) → IsPermutation xs ys → sum_cell place xs ≡ sum_cell place ys
sum_cell-IsPermutation place xs ys h =
    ap (λ n. cond (n == 0) Null (number_cell (sum_at place xs))) (sym (length_permutation xs ys h))
    ∙ ap (λ sum. cond (length ys == 0) Null (number_cell sum)) (sum-IsPermutation place xs ys h)

overflow-IsPermutation : (xs ys : List Joined) (item : Item) → IsPermutation xs ys → item_overflows xs item ≡ item_overflows ys item
overflow-IsPermutation xs ys (Plain place) h = refl
overflow-IsPermutation xs ys CountAll h = refl
overflow-IsPermutation xs ys (Count place) h = refl
overflow-IsPermutation xs ys (Sum place) h = ap is_beyond (sum-IsPermutation place xs ys h)
overflow-IsPermutation xs ys (Min place) h = refl
overflow-IsPermutation xs ys (Max place) h = refl

map_alike : {X Y : Type 0} (f g : X → Y) (xs : List X) → ((x : X) → f x ≡ g x) → map f xs ≡ map g xs
map_alike f g [] e = refl
map_alike f g (x ∷ xs) e = ap (λ y. y ∷ map f xs) (e x) ∙ ap (λ ys. g x ∷ ys) (map_alike f g xs e)

kept_deeper : {X : Type 0} (p : X → Bool) (x y : X) (xs : List X) (t : Bool) → Contains (filter p xs) y → Contains (cond t (x ∷ filter p xs) (filter p xs)) y
kept_deeper p x y xs true h = (suc h.0, let low = h.1 in omega arith, h.2)
kept_deeper p x y xs false h = h

kept_first : {X : Type 0} (p : X → Bool) (x : X) (xs : List X) (t : Bool) → t ≡ true → Contains (cond t (x ∷ filter p xs) (filter p xs)) x
kept_first p x xs true e = (0, omega arith, refl)
kept_first p x xs false e = cc

all_kept : {X : Type 0} (p : X → Bool) (xs : List X) → All (λ y. p y ≡ true → Contains (filter p xs) y) xs
all_kept p [] = All-nil (λ y. p y ≡ true → Contains [] y)
all_kept p (x ∷ xs) =
    All-cons (λ y. p y ≡ true → Contains (filter p (x ∷ xs)) y) x xs (kept_first p x xs (p x))
    (All-weaker (λ y. p y ≡ true → Contains (filter p xs) y) (λ y. p y ≡ true → Contains (filter p (x ∷ xs)) y)
    (λ y h e. kept_deeper p x y xs (p x) (h e)) xs (all_kept p xs))

-- what a filter keeps is what passes its test
Contains-filter : {X : Type 0} (p : X → Bool) (xs : List X) (x : X) → Contains (filter p xs) x ↔ (Contains xs x × (p x ≡ true))
Contains-filter p xs x = (
  λ h. (
    All-contains (Contains xs) (filter p xs) x (All-filter p (Contains xs) xs (All-contains_itself xs)) h,
    All-contains (λ y. p y ≡ true) (filter p xs) x (filter_passes p xs) h,
  ),
  λ h. All-contains (λ y. p y ≡ true → Contains (filter p xs) y) xs x (all_kept p xs) h.0 h.1,
)

is_Equal : (r : Ordering) → is_eq r ≡ true → r ≡ Equal
is_Equal Less e = cc
is_Equal Equal e = refl
is_Equal Greater e = cc

module _ (total : IsTotalOrder value_cmp) (same : (x y : Value) → (value_cmp x y ≡ Equal) ↔ (x ≡ y)) where
  keys_total : IsTotalOrder key_cmp
  keys_total = lists_total total

  pub same_key : (a b : List Value) → (key_cmp a b ≡ Equal) ↔ (a ≡ b)
  same_key a b = (
    slice_cmp-IsAntisymmetric (λ x y. (same x y).0) a b,
    λ e. subst (λ (c : List Value). key_cmp a c ≡ Equal) e (tied_itself keys_total a),
  )

  pub flip_same : (x y : Value) → (flip_args value_cmp x y ≡ Equal) ↔ (x ≡ y)
  flip_same x y = (λ e. sym ((same y x).0 e), λ e. (same y x).1 (sym e))

  item_cell-IsPermutation : (places : List Place) (key : List Value) (xs ys : List Joined) (item : Item) → IsPermutation xs ys
      → item_cell places key xs item ≡ item_cell places key ys item
  item_cell-IsPermutation places key xs ys (Plain place) h = refl
  item_cell-IsPermutation places key xs ys CountAll h = ap (λ n. number_cell (pos n)) (sym (length_permutation xs ys h))
  item_cell-IsPermutation places key xs ys (Count place) h = ap (λ n. number_cell (pos n)) (sym (length_permutation xs ys h))
  item_cell-IsPermutation places key xs ys (Sum place) h = sum_cell-IsPermutation place xs ys h
  item_cell-IsPermutation places key xs ys (Min place) h =
      ap cell_of (first-IsPermutation value_cmp total same (map (value_at place) xs) (map (value_at place) ys) (IsPermutation-map (value_at place) xs ys h))
  item_cell-IsPermutation places key xs ys (Max place) h =
      ap cell_of (first-IsPermutation (flip_args value_cmp) (back_total total) flip_same
      (map (value_at place) xs) (map (value_at place) ys) (IsPermutation-map (value_at place) xs ys h))

  rows-IsPermutation : (places : List Place) (key : List Value) (xs ys : List Joined) → IsPermutation xs ys → IsPermutation (rows_of places key xs) (rows_of places key ys)
  rows-IsPermutation places key xs ys h = filter-IsPermutation (λ row. is_eq (key_cmp (key_of places row) key)) xs ys h

  keys-IsPermutation : (places : List Place) (xs ys : List Joined) → IsPermutation xs ys → keys_of places xs ≡ keys_of places ys
  keys-IsPermutation places xs ys h =
      fold-IsPermutation (insert_key key_cmp) (insert_key-commutes key_cmp keys_total same_key)
      (map (key_of places) xs) (map (key_of places) ys) (IsPermutation-map (key_of places) xs ys h) []

  groups-IsPermutation : (places : List Place) (xs ys : List Joined) → IsPermutation xs ys → groups_of places xs ≡ groups_of places ys
  groups-IsPermutation [] xs ys h = refl
  groups-IsPermutation (place ∷ places) xs ys h = keys-IsPermutation (place ∷ places) xs ys h

  overflows-IsPermutation : (query : Query) (xs ys : List Joined) → IsPermutation xs ys → overflows query xs ≡ overflows query ys
  overflows-IsPermutation query xs ys h =
      ap (list_any (λ key. list_any (item_overflows (rows_of query.groups key xs)) query.items)) (groups-IsPermutation query.groups xs ys h)
      ∙ any_alike _ _ (groups_of query.groups ys)
      (λ key. any_alike (item_overflows (rows_of query.groups key xs)) (item_overflows (rows_of query.groups key ys)) query.items
      (λ item. overflow-IsPermutation _ _ item (rows-IsPermutation query.groups key xs ys h)))

  cells-IsPermutation : (query : Query) (xs ys : List Joined) → IsPermutation xs ys
      → map (cells_of query xs) (groups_of query.groups xs) ≡ map (cells_of query ys) (groups_of query.groups ys)
  cells-IsPermutation query xs ys h =
      ap (map (cells_of query xs)) (groups-IsPermutation query.groups xs ys h)
      ∙ map_alike (cells_of query xs) (cells_of query ys) (groups_of query.groups ys)
      (λ key. map_alike (item_cell query.groups key (rows_of query.groups key xs)) (item_cell query.groups key (rows_of query.groups key ys)) query.items
      (λ item. item_cell-IsPermutation query.groups key _ _ item (rows-IsPermutation query.groups key xs ys h)))

  -- the answer is the same in any order of the rows
  pub answer-IsPermutation : (query : Query) (xs ys : List Joined) → IsPermutation xs ys → answer_of query xs ≡ answer_of query ys
  unfolding answer_of
  answer-IsPermutation query xs ys h =
      ap (λ over. cond over Overflow (Rows (map (cells_of query xs) (groups_of query.groups xs)))) (overflows-IsPermutation query xs ys h)
      ∙ ap (λ rows. cond (overflows query ys) Overflow (Rows rows)) (cells-IsPermutation query xs ys h)

  -- the groups ascend
  pub groups_ascend : (places : List Place) (rows : List Joined) → AllPairs (λ key later. key_cmp key later ≡ Less) (groups_of places rows)
  groups_ascend [] rows = λ i j d lt in'. absurd (omega arith)
  groups_ascend (place ∷ places) rows = keys_ascend key_cmp keys_total same_key (map (key_of (place ∷ places)) rows)

  -- with GROUP BY, the groups are the keys of the rows
  pub groups_are_keys : (place : Place) (places : List Place) (rows : List Joined) (key : List Value)
      → Contains (groups_of (place ∷ places) rows) key ↔ Contains (map (key_of (place ∷ places)) rows) key
  groups_are_keys place places rows key = keys_are_those key_cmp keys_total same_key (map (key_of (place ∷ places)) rows) key

  -- a row of a group has the group's key
  row_has_key : (places : List Place) (key : List Value) (rows : List Joined) → All (λ row. key_of places row ≡ key) (rows_of places key rows)
  row_has_key places key rows =
      All-weaker (λ row. is_eq (key_cmp (key_of places row) key) ≡ true) (λ row. key_of places row ≡ key)
      (λ row e. (same_key (key_of places row) key).0 (is_Equal (key_cmp (key_of places row) key) e)) (rows_of places key rows)
      (filter_passes (λ row. is_eq (key_cmp (key_of places row) key)) rows)

  same_test : (a b : List Value) → IsTrue (is_eq (key_cmp a b)) ↔ (a ≡ b)
  same_test a b = (λ e. (same_key a b).0 (is_Equal (key_cmp a b) e), λ e. ap is_eq ((same_key a b).1 e))

  -- the rows of a group are those that have its key
  pub rows-law : (places : List Place) (key : List Value) (rows : List Joined) (row : Joined)
      → Contains (rows_of places key rows) row ↔ (Contains rows row × (key_of places row ≡ key))
  rows-law places key rows row =
      let kept = Contains-filter (λ other. is_eq (key_cmp (key_of places other) key)) rows row in (
        λ h. ((kept.0 h).0, (same_test (key_of places row) key).0 (kept.0 h).1),
        λ h. kept.1 (h.0, (same_test (key_of places row) key).1 h.1),
      )

Decides-same_place : (place other : Place) → Decides (same_place place other) (place ≡ other)
Decides-same_place (Fact column) (Fact other) =
    let d = Decides-eqb column other in (λ h. ap Fact (d.0 h), λ h. d.1 (cc))
Decides-same_place (Fact column) (Dimension dimension other) = (λ h. cc, λ h. cc)
Decides-same_place (Dimension dimension column) (Fact other) = (λ h. cc, λ h. cc)
Decides-same_place (Dimension dimension column) (Dimension other another) =
    let d = Decides-and _ _ (Decides-eqb dimension other) (Decides-eqb column another) in
    (λ h. let both = d.0 h in let first = both.0 in let second = both.1 in cc, λ h. d.1 (cc, cc))

value_by : (place other : Place) (places : List Place) (row : Joined) (t : Bool) → same_place place other ≡ t
    → (same_place place other ≡ false → key_value places (key_of places row) place ≡ Some (value_at place row))
    → cond t (Some (value_at other row)) (key_value places (key_of places row) place) ≡ Some (value_at place row)
value_by place other places row true e deeper = ap (λ p. Some (value_at p row)) (sym ((Decides-same_place place other).0 e))
value_by place other places row false e deeper = deeper e

value_at_place : (place other : Place) (places : List Place) (i : ℕ) → i < length (other ∷ places) → get_or (other ∷ places) i place ≡ place
    → same_place place other ≡ false → Contains places place
value_at_place place other places zero low e apart =
    let itself = (Decides-same_place place other).1 (sym e) in (cc)
value_at_place place other places (suc i) low e apart = (i, omega arith, e)

-- a place of GROUP BY finds its value in the key of a row
key_value-of_row : (places : List Place) (place : Place) (row : Joined) → Contains places place → key_value places (key_of places row) place ≡ Some (value_at place row)
key_value-of_row [] place row h = let low = h.1 in absurd (omega arith)
key_value-of_row (other ∷ places) place row h =
    value_by place other places row (same_place place other) refl (λ apart. key_value-of_row places place row (value_at_place place other places h.0 h.1 h.2 apart))

module _ (total : IsTotalOrder value_cmp) (same : (x y : Value) → (value_cmp x y ≡ Equal) ↔ (x ≡ y)) where
  -- the cell of a plain item is the value that each row of the group has at its place
  pub plain-law : (places : List Place) (place : Place) (key : List Value) (rows : List Joined) → Contains places place
      → All (λ row. item_cell places key (rows_of places key rows) (Plain place) ≡ Full (value_at place row)) (rows_of places key rows)
  plain-law places place key rows h =
      All-weaker (λ row. key_of places row ≡ key) (λ row. item_cell places key (rows_of places key rows) (Plain place) ≡ Full (value_at place row))
      (λ row e. ap (λ k. cell_of (key_value places k place)) (sym e) ∙ ap cell_of (key_value-of_row places place row h))
      (rows_of places key rows) (row_has_key total same places key rows)

any_weaker : {X : Type 0} (P Q : X → Type 0) → ((x : X) → P x → Q x) → (xs : List X) → Any P xs → Any Q xs
any_weaker P Q f xs h = (h.0, h.1, h.2, h.3, f h.1 h.4)

overflow_is_answered : (query : Query) (rows : List Joined) (over : Bool) → overflows query rows ≡ over → (answer_of query rows ≡ Overflow) ↔ (overflows query rows ≡ true)
unfolding answer_of
overflow_is_answered query rows true e = (λ _. e, λ _. ap (λ over. cond over Overflow (Rows (map (cells_of query rows) (groups_of query.groups rows)))) e)
overflow_is_answered query rows false e =
    let answered = ap (λ over. cond over Overflow (Rows (map (cells_of query rows) (groups_of query.groups rows)))) e in
    (λ h. let wrong = sym answered ∙ h in (cc), λ h. let wrong = sym e ∙ h in (cc))

-- the answer is an overflow where some item of some group overflows
pub overflow-law : (query : Query) (rows : List Joined)
    → (answer_of query rows ≡ Overflow) ↔ Any (λ key. Any (λ item. IsTrue (item_overflows (rows_of query.groups key rows) item)) query.items) (groups_of query.groups rows)
overflow-law query rows =
    let test : List Value → Item → Bool = λ key item. item_overflows (rows_of query.groups key rows) item in
    let answered = overflow_is_answered query rows (overflows query rows) refl in
    let found = Decides-list_any (λ key. list_any (test key) query.items) (groups_of query.groups rows) in (
      λ h. any_weaker (λ key. list_any (test key) query.items ≡ true) (λ key. Any (λ item. test key item ≡ true) query.items)
          (λ key e. (Decides-list_any (test key) query.items).0 e) (groups_of query.groups rows) (found.0 (answered.0 h)),
      λ h. answered.1 (found.1 (any_weaker (λ key. Any (λ item. test key item ≡ true) query.items) (λ key. list_any (test key) query.items ≡ true)
          (λ key e. (Decides-list_any (test key) query.items).1 e) (groups_of query.groups rows) h)),
    )

beyond_by : (n : ℤ) (t : Bool) → is_beyond n ≡ t → (t ≡ true → ¬ (FitsSigned w64 n)) → (t ≡ false → FitsSigned w64 n) → IsTrue (is_beyond n) ↔ ¬ (FitsSigned w64 n)
beyond_by n true e out in' = (λ _. out refl, λ _. e)
beyond_by n false e out in' = (λ h. let wrong = sym e ∙ h in (cc), λ h. absurd (h (in' refl)))

-- a sum is too large where it is no integer of 64 bits with sign
pub is_beyond-law : (n : ℤ) → IsTrue (is_beyond n) ↔ ¬ (FitsSigned w64 n)
is_beyond-law (pos n) =
    beyond_by (pos n) (is_beyond (pos n)) refl
    (λ h fits. let low = fits.sfits in absurd (grind (arith, nat_tests))) (λ h. record { sfits = grind (arith, nat_tests) })
is_beyond-law (negsuc n) =
    beyond_by (negsuc n) (is_beyond (negsuc n)) refl
    (λ h fits. let low = fits.sfits in absurd (grind (arith, nat_tests))) (λ h. record { sfits = grind (arith, nat_tests) })

-- what holds of all numbers below a count
All-numbers : (P : ℕ → Type 0) (count : ℕ) → All P (range_with_len 0 count) ↔ ((number : ℕ) → number < count → P number)
All-numbers P count =
    let len = length-range_with_len 0 count in (
      λ h number low.
          let at : get_or (range_with_len 0 count) number 0 ≡ number = get_or-range_with_len 0 count number 0 low ∙ omega arith in
          subst P at (h number 0 (omega arith)),
      λ h k d low.
          let below : k < count = omega arith in
          let at : k ≡ get_or (range_with_len 0 count) k d = sym (get_or-range_with_len 0 count k d below ∙ omega arith) in
          subst P at (h k below),
    )

-- a query keeps a row where each condition holds on the row of its table
pub is_kept-law : (query : Query) (row : Joined)
    → IsTrue (is_kept query row) ↔ (IsTrue (passes query.fact row.fact) × ((dimension : ℕ) → dimension < length query.choices → IsTrue (takes_at query row dimension)))
is_kept-law query row =
    let numbers = All-numbers (λ dimension. IsTrue (takes_at query row dimension)) (length query.choices) in
    let takes_all = Decides-list_all (takes_at query row) (range_with_len 0 (length query.choices)) in
    let takes_fact : Decides (passes query.fact row.fact) (IsTrue (passes query.fact row.fact)) = (λ h. h, λ h. h) in
    let both = Decides-and _ _ takes_fact takes_all in
    (λ h. let parts = both.0 h in (parts.0, numbers.0 parts.1), λ h. both.1 (h.0, numbers.1 h.1))

-- the kept rows come in the order of the rows
pub kept-IsPermutation : (query : Query) (rows others : List Joined) → IsPermutation rows others → IsPermutation (kept_of query rows) (kept_of query others)
unfolding kept_of
kept-IsPermutation query rows others h = filter-IsPermutation (is_kept query) rows others h
