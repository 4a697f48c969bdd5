-- Lists in which something stands twice, in pairs and sorted.
use Rattle.std.proofs.Common.{◌≡◌, ◌↔◌, ℕ, suc, ◌+◌, ◌<◌, Bool, true, false, not, ◌||◌, List, [], ◌∷◌, length, get_or, refl, ap, sym, ◌∙◌, subst, arith}
use Rattle.std.specs.Prelude.{◌≢◌, bytes_eq}
use Rattle.std.specs.List.{All, AllPairs, IsDistinct, list_any}
use Rattle.std.specs.List.Sorted.{IsPermutation, IsSortedBy}
use Rattle.std.specs.Bool.{Decides, MatchBool}
use Rattle.std.specs.Cmp.{IsTotalOrder}
use Rattle.std.specs.Cmp.Lexicographic.{nat_list_cmp_total, slice_cmp, texts_ties}
use Rattle.std.specs.Ordering.{eq_by_cmp, is_eq, is_lt, nat_cmp, ordering_reverse}
use Rattle.std.specs.declared.cmp.Ordering.{Ordering}
use Rattle.std.specs.declared.cmp.Ordering.TheVariants.{Less, Equal, Greater}
use Rattle.std.proofs.lemmas.Cmp.{on_total}
use Rattle.std.proofs.lemmas.List.Elements.{All-tail}
use Rattle.std.proofs.lemmas.List.Folds.{list_any_none}
use Rattle.std.proofs.lemmas.List.Kept.{AllPairs-cons}
use Rattle.std.proofs.lemmas.List.Sorted.{IsPermutation-sym}
use Rattle.std.proofs.lemmas.Map.Keys.{IsDistinct-from_apart, IsDistinct-from_sorted, IsDistinct-IsPermutation, apart_from_distinct, sorted_from_all_adjacent}
use Rattle.std.proofs.lemmas.Slice.Eq.{bytes_eq-Decides}
use Rattle.star_plan.specs.declared.column_def.ColumnDef.{ColumnDef}
use Rattle.star_plan.specs.Declaration.{same_name}
use Rattle.star_plan.specs.Names.{name_cmp}
use Rattle.star_plan.specs.Repeats.{Ascends, repeats}
use Rattle.star_plan.proofs.ListLemmas.{All-none, neither}

-- no member is the same as a later one
pub apart_from_repeats : {A : Type 0} (same : A → A → Bool) (xs : List A) → repeats same xs ≡ false → AllPairs (λ x y. same x y ≡ false) xs
apart_from_repeats same [] e = λ i j d lt in'. absurd (omega arith)
apart_from_repeats same (x ∷ xs) e =
    let both = neither (list_any (same x) xs) (repeats same xs) e in
    AllPairs-cons (λ y z. same y z ≡ false) x xs (All-none (same x) xs both.0) (apart_from_repeats same xs both.1)

pub repeats-none : {A : Type 0} (same : A → A → Bool) (xs : List A) → AllPairs (λ x y. same x y ≡ false) xs → repeats same xs ≡ false
repeats-none same [] h = refl
repeats-none same (x ∷ xs) h =
    let first : list_any (same x) xs ≡ false = list_any_none (same x) xs (λ k d low. h 0 (suc k) d (omega arith) (omega arith)) in
    let rest : repeats same xs ≡ false = repeats-none same xs (λ i j d lt low. h (suc i) (suc j) d (omega arith) (omega arith)) in
    ap (λ t. t || repeats same xs) first ∙ rest

any_alike : {A : Type 0} (p q : A → Bool) (xs : List A) → ((x : A) → p x ≡ q x) → list_any p xs ≡ list_any q xs
any_alike p q [] e = refl
any_alike p q (x ∷ xs) e = ap (λ t. t || list_any p xs) (e x) ∙ ap (λ t. q x || t) (any_alike p q xs e)

-- members that are not below one another are the same
tied : (r : Ordering) → is_lt r ≡ false → is_lt (ordering_reverse r) ≡ false → is_eq r ≡ true
tied Less e f = cc
tied Equal e f = refl
tied Greater e f = cc

reversed_ties : (r : Ordering) → is_eq r ≡ is_eq (ordering_reverse r)
reversed_ties Less = refl
reversed_ties Equal = refl
reversed_ties Greater = refl

below_is_Less : (r : Ordering) → is_lt r ≡ true → r ≡ Less
below_is_Less Less e = refl
below_is_Less Equal e = cc
below_is_Less Greater e = cc

not_false : (b : Bool) → (b ≡ false → ⊥) → b ≡ true
not_false true h = refl
not_false false h = absurd (h refl)

module _ {A : Type 0} (cmp : A → A → Ordering) (o : IsTotalOrder cmp) where
  flips : (x y : A) → eq_by_cmp cmp x y ≡ eq_by_cmp cmp y x
  flips x y = ap is_eq (o.antisymm x y) ∙ sym (reversed_ties (cmp y x))

  distinct : (ys : List A) → Ascends cmp ys true → IsDistinct (eq_by_cmp cmp) ys
  distinct [] ascends = IsDistinct-from_apart (eq_by_cmp cmp) [] (λ i j d lt in'. absurd (omega arith))
  distinct (y ∷ ys) ascends =
      IsDistinct-from_sorted cmp (y ∷ ys)
      (sorted_from_all_adjacent o (y ∷ ys) y (λ k low. below_is_Less _ (sym (ascends k y low))))

  -- a list ascends once it is sorted exactly where nothing stands twice in it
  pub repeats-from_sorted : (xs ys : List A) → IsPermutation xs ys → IsSortedBy (λ x y. is_lt (cmp x y)) ys → (answer : Bool) → Ascends cmp ys answer
      → not answer ≡ repeats (eq_by_cmp cmp) xs
  repeats-from_sorted xs ys permuted sorted true ascends =
      let apart : IsDistinct (eq_by_cmp cmp) xs =
      IsDistinct-IsPermutation (eq_by_cmp cmp) flips ys xs (IsPermutation-sym xs ys permuted) (distinct ys ascends) in
      sym (repeats-none (eq_by_cmp cmp) xs (λ i j d lt low. apart_from_distinct (eq_by_cmp cmp) xs i j d apart lt low))
  repeats-from_sorted xs [] permuted sorted false ascends = let low = ascends.1 in absurd (omega arith)
  repeats-from_sorted xs (y ∷ ys) permuted sorted false ascends =
      let at = ascends.0 in
      let low = ascends.1 in
      let before = get_or (y ∷ ys) at y in
      let behind = get_or (y ∷ ys) (at + 1) y in
      let above : is_lt (ordering_reverse (cmp before behind)) ≡ false = ap is_lt (sym (o.antisymm behind before)) ∙ sorted at y (omega arith) low in
      let same : eq_by_cmp cmp before behind ≡ true = tied (cmp before behind) (sym (ascends.2 y)) above in
      sym (not_false (repeats (eq_by_cmp cmp) xs) (λ none.
      let apart : IsDistinct (eq_by_cmp cmp) (y ∷ ys) =
      IsDistinct-IsPermutation (eq_by_cmp cmp) flips xs (y ∷ ys) permuted
      (IsDistinct-from_apart (eq_by_cmp cmp) xs (apart_from_repeats (eq_by_cmp cmp) xs none)) in
      let wrong : eq_by_cmp cmp before behind ≡ false = apart_from_distinct (eq_by_cmp cmp) (y ∷ ys) at (at + 1) y apart (omega arith) low in
      (cc)))

-- columns are ordered by their names
name_cmp-total : IsTotalOrder name_cmp
name_cmp-total = on_total (λ (column : ColumnDef). column.name) nat_list_cmp_total

pub repeats_alike : {A : Type 0} (e f : A → A → Bool) (xs : List A) → ((x y : A) → e x y ≡ f x y) → repeats e xs ≡ repeats f xs
repeats_alike e f [] h = refl
repeats_alike e f (x ∷ xs) h =
    ap (λ t. t || repeats e xs) (any_alike (e x) (f x) xs (h x)) ∙ ap (λ t. list_any (f x) xs || t) (repeats_alike e f xs h)

pub repeats-from_sorted_names : (xs ys : List ColumnDef) → IsPermutation xs ys → IsSortedBy (λ x y. is_lt (name_cmp x y)) ys → (answer : Bool)
    → Ascends name_cmp ys answer → not answer ≡ repeats same_name xs
repeats-from_sorted_names xs ys permuted sorted answer ascends =
    repeats-from_sorted name_cmp name_cmp-total xs ys permuted sorted answer ascends
    ∙ repeats_alike (eq_by_cmp name_cmp) same_name xs (λ x y. sym (texts_ties x.name y.name))

-- no two columns have one name where no name is repeated
pub repeats-pairs : (columns : List ColumnDef) → (repeats same_name columns ≡ false) ↔ AllPairs (λ column other. column.name ≢ other.name) columns
repeats-pairs columns = (
  λ e i j d lt low same.
      let apart = apart_from_repeats same_name columns e i j d lt low in
      let tied_names = (bytes_eq-Decides (get_or columns i d).name (get_or columns j d).name).1 same in
      let wrong : true ≡ false = sym tied_names ∙ apart in (cc),
  λ h. repeats-none same_name columns (λ i j d lt low.
      differ (bytes_eq (get_or columns i d).name (get_or columns j d).name)
      (λ same. h i j d lt low ((bytes_eq-Decides (get_or columns i d).name (get_or columns j d).name).0 same))),
)
  where
    differ : (t : Bool) → (t ≡ true → ⊥) → t ≡ false
    differ true h = absurd (h refl)
    differ false h = refl
