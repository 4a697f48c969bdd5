-- Numbers of filters that are sorted by drop rate.
use Rattle.std.proofs.Common.{◌≡◌, ℕ, zero, suc, ◌<◌, ◌≤◌, Bool, true, false, List, [], ◌∷◌, ◌++◌, length, get_or, take, refl, ap, sym, subst, ◌∙◌, ◌⊎◌, inl, inr, arith, nat_eq}
use Rattle.std.specs.List.{AllPairs, Contains, IsDistinct, range_with_len}
use Rattle.std.specs.List.Sorted.{IsPermutation, IsSortedBy}
use Rattle.std.proofs.lemmas.Bool.Decides.{nat_tests}
use Rattle.std.proofs.lemmas.Cmp.{nat_eq_equiv}
use Rattle.std.proofs.lemmas.List.{length-take-le, take_at}
use Rattle.std.proofs.lemmas.List.FromFn.{length-range_with_len, get_or-range_with_len}
use Rattle.std.proofs.lemmas.List.Sorted.{Contains-permutation, IsPermutation-sym, length_permutation, sorted_far}
use Rattle.std.proofs.lemmas.Map.Keys.{IsDistinct-from_apart, IsDistinct-IsPermutation, apart_from_distinct}
use Rattle.dimension_filter.specs.declared.drop_tally.DropTally.{DropTally}
use Rattle.filter_order.specs.Numbers.{all_numbers}
use Rattle.filter_order.specs.Rates.{IsOrderedByDropRate, comes_before}
use Rattle.filter_order.proofs.RateLemmas.{before_weak, one_before}

-- the first of all numbers, as many as there are tallies
pub first_numbers : (n : ℕ) → n ≤ 8 → take n all_numbers ≡ range_with_len 0 n
first_numbers zero few = refl
first_numbers (suc zero) few = refl
first_numbers (suc (suc zero)) few = refl
first_numbers (suc (suc (suc zero))) few = refl
first_numbers (suc (suc (suc (suc zero)))) few = refl
first_numbers (suc (suc (suc (suc (suc zero))))) few = refl
first_numbers (suc (suc (suc (suc (suc (suc zero)))))) few = refl
first_numbers (suc (suc (suc (suc (suc (suc (suc zero))))))) few = refl
first_numbers (suc (suc (suc (suc (suc (suc (suc (suc zero)))))))) few = refl
first_numbers (suc (suc (suc (suc (suc (suc (suc (suc (suc n))))))))) few = absurd (omega arith)

distinct_below : (n : ℕ) → IsDistinct nat_eq (range_with_len 0 n)
distinct_below n = IsDistinct-from_apart nat_eq (range_with_len 0 n) (λ i j d before low.
    let long = length-range_with_len 0 n in
    let first = get_or-range_with_len 0 n i d (omega arith) in
    let second = get_or-range_with_len 0 n j d (omega arith) in
    grind (arith, nat_tests))

-- numbers that are sorted by drop rate are ordered by it
pub ordered_from_sorted : (tallies : List DropTally) (order : List ℕ) → IsPermutation (range_with_len 0 (length tallies)) order
    → IsSortedBy (comes_before tallies) order → IsOrderedByDropRate tallies order
ordered_from_sorted tallies order permuted sorted =
    let distinct : IsDistinct nat_eq order =
    IsDistinct-IsPermutation nat_eq (λ x y. nat_eq_equiv.symm x y) (range_with_len 0 (length tallies)) order permuted (distinct_below (length tallies)) in
    record {
      each_once = permuted;
      ordered = λ i j d before low.
          one_before tallies (get_or order i d) (get_or order j d)
          (apart_from_distinct nat_eq order i j d distinct before low)
          (sorted_far (comes_before tallies) (before_weak tallies) order sorted i j d (omega arith) low);
    }

-- the same, in front of the numbers that have no tally
pub ordered_in_front : (tallies : List DropTally) (order rest : List ℕ) → length tallies ≤ 8 → IsPermutation (take (length tallies) all_numbers) order
    → IsSortedBy (comes_before tallies) order → IsOrderedByDropRate tallies (take (length tallies) (order ++ rest))
ordered_in_front tallies order rest few permuted sorted =
    let permuted_below : IsPermutation (range_with_len 0 (length tallies)) order =
    subst (λ numbers. IsPermutation numbers order) (first_numbers (length tallies) few) permuted in
    let as_long : length order ≡ length tallies =
    length_permutation (take (length tallies) all_numbers) order permuted ∙ length-take-le (length tallies) all_numbers few in
    subst (IsOrderedByDropRate tallies) (sym (front as_long)) (ordered_from_sorted tallies order permuted_below sorted)
  where
    front : length order ≡ length tallies → take (length tallies) (order ++ rest) ≡ order
    front as_long = take_at order rest (length tallies) as_long

module _ (lt : ℕ → ℕ → Bool) (one_way : (x y : ℕ) → lt x y ≡ true → lt y x ≡ false) where
  -- a number of an ordered list is the first one, or stands behind it
  beyond : (y : ℕ) (ys : List ℕ) (x : ℕ) → AllPairs (λ a b. lt a b ≡ true) (y ∷ ys) → Contains (y ∷ ys) x
      → (y ≡ x) ⊎ ((lt y x ≡ true) × Contains ys x)
  beyond y ys x ordered there = by_place there.0 there.1 there.2
    where
      by_place : (k : ℕ) → k < length (y ∷ ys) → get_or (y ∷ ys) k x ≡ x → (y ≡ x) ⊎ ((lt y x ≡ true) × Contains ys x)
      by_place zero low e = inl e
      by_place (suc k) low e =
          inr (subst (λ z. lt y z ≡ true) e (ordered 0 (suc k) x (omega arith) low), (k, omega arith, e))

  clash : (x y : ℕ) → lt x y ≡ true → lt y x ≡ true → ⊥
  clash x y ahead back = let wrong : true ≡ false = sym back ∙ one_way x y ahead in cc

  behind : (ys : List ℕ) (y : ℕ) → AllPairs (λ a b. lt a b ≡ true) (y ∷ ys) → AllPairs (λ a b. lt a b ≡ true) ys
  behind ys y ordered = λ i j d before low. ordered (suc i) (suc j) d (omega arith) (omega arith)

  -- what stands behind one first number stands behind the same one elsewhere
  later : (x : ℕ) (xs ys : List ℕ) → AllPairs (λ a b. lt a b ≡ true) (x ∷ xs) → AllPairs (λ a b. lt a b ≡ true) (x ∷ ys)
      → ((z : ℕ) → Contains (x ∷ xs) z → Contains (x ∷ ys) z) → (z : ℕ) → Contains xs z → Contains ys z
  later x xs ys p q there z inside =
      let low = inside.1 in
      let ahead : lt x z ≡ true = subst (λ w. lt x w ≡ true) inside.2 (p 0 (suc inside.0) z (omega arith) (omega arith)) in
      elim (beyond x ys z q (there z (suc inside.0, omega arith, inside.2))) [
        | inl same ↦ absurd (clash x z ahead (subst (λ w. lt w x ≡ true) same (subst (λ w. lt x w ≡ true) (sym same) ahead)))
        | inr h ↦ h.1
      ]

  -- two ordered lists with the same numbers begin alike
  same_first : (x y : ℕ) (xs ys : List ℕ) → AllPairs (λ a b. lt a b ≡ true) (x ∷ xs) → AllPairs (λ a b. lt a b ≡ true) (y ∷ ys)
      → Contains (y ∷ ys) x → Contains (x ∷ xs) y → x ≡ y
  same_first x y xs ys p q there back =
      elim (beyond y ys x q there) [
        | inl e ↦ sym e
        | inr h ↦ elim (beyond x xs y p back) [ inl e ↦ e | inr k ↦ absurd (clash x y k.0 h.0) ]
      ]

  -- and are equal
  unique : (xs ys : List ℕ) → AllPairs (λ a b. lt a b ≡ true) xs → AllPairs (λ a b. lt a b ≡ true) ys
      → ((z : ℕ) → Contains xs z → Contains ys z) → ((z : ℕ) → Contains ys z → Contains xs z) → xs ≡ ys
  unique [] [] p q there back = refl
  unique [] (y ∷ ys) p q there back = let low = (back y (0, omega arith, refl)).1 in absurd (omega arith)
  unique (x ∷ xs) [] p q there back = let low = (there x (0, omega arith, refl)).1 in absurd (omega arith)
  unique (x ∷ xs) (y ∷ ys) p q there back =
      let heads : x ≡ y = same_first x y xs ys p q (there x (0, omega arith, refl)) (back y (0, omega arith, refl)) in
      let p_here : AllPairs (λ a b. lt a b ≡ true) (y ∷ xs) = subst (λ n. AllPairs (λ a b. lt a b ≡ true) (n ∷ xs)) heads p in
      let there_here : ((z : ℕ) → Contains (y ∷ xs) z → Contains (y ∷ ys) z) =
      subst (λ n. (z : ℕ) → Contains (n ∷ xs) z → Contains (y ∷ ys) z) heads there in
      let back_here : ((z : ℕ) → Contains (y ∷ ys) z → Contains (y ∷ xs) z) =
      subst (λ n. (z : ℕ) → Contains (y ∷ ys) z → Contains (n ∷ xs) z) heads back in
      ap (λ n. n ∷ xs) heads
      ∙ ap (λ ns. y ∷ ns)
      (unique xs ys (behind xs x p) (behind ys y q) (later y xs ys p_here q there_here) (later y ys xs q p_here back_here))

-- tallies have one order
pub one_order : (tallies : List DropTally) (order other : List ℕ) → IsOrderedByDropRate tallies order → IsOrderedByDropRate tallies other → order ≡ other
one_order tallies order other p q =
    let numbers = range_with_len 0 (length tallies) in
    unique (comes_before tallies) (before_weak tallies).one_way order other p.ordered q.ordered
    (λ z there. Contains-permutation numbers other z q.each_once
    (Contains-permutation order numbers z (IsPermutation-sym numbers order p.each_once) there))
    (λ z there. Contains-permutation numbers order z p.each_once
    (Contains-permutation other numbers z (IsPermutation-sym numbers other q.each_once) there))
