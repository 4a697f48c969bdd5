-- The first of two values in an order.
use Rattle.std.proofs.Common.{◌≡◌, ◌↔◌, ℕ, zero, suc, ◌<◌, Bool, true, false, cond, List, [], ◌∷◌, length, get_or, refl, ap, sym, ◌∙◌, arith}
use Rattle.std.specs.Prelude.{IfSome, IsTrue}
use Rattle.std.specs.List.{All, Contains, fold, reduce}
use Rattle.std.specs.List.Sorted.{IsPermutation}
use Rattle.std.specs.Cmp.{IsTotalOrder}
use Rattle.std.specs.Ordering.{is_lt, is_le, is_gt, ord_min, ordering_reverse}
use Rattle.std.specs.declared.cmp.Ordering.{Ordering}
use Rattle.std.specs.declared.cmp.Ordering.TheVariants.{Less, Equal, Greater}
use Rattle.std.proofs.lemmas.Cmp.{tied_itself, upto}
use Rattle.std.proofs.lemmas.List.Elements.{All-nil, All-cons, All-head, All-tail}
use Rattle.star_plan.proofs.PermutationLemmas.{reduce-IsPermutation}

is_Less : (r : Ordering) → is_lt r ≡ true → r ≡ Less
is_Less Less e = refl
is_Less Equal e = cc
is_Less Greater e = cc

not_above : (r : Ordering) → is_gt r ≡ false → is_le r ≡ true
not_above Less e = refl
not_above Equal e = refl
not_above Greater e = cc

module _ {K : Type 0} (cmp : K → K → Ordering) (o : IsTotalOrder cmp) (same : (x y : K) → (cmp x y ≡ Equal) ↔ (x ≡ y)) where
  turn_by : (x y : K) (r : Ordering) → cmp x y ≡ r → ord_min cmp x y ≡ ord_min cmp y x
  turn_by x y Less e =
      ap (λ r. cond (is_lt r) y x) (o.antisymm y x ∙ ap ordering_reverse e) ∙ ap (λ r. cond (is_lt r) x y) (sym e)
  turn_by x y Equal e =
      ap (λ r. cond (is_lt r) y x) (o.antisymm y x ∙ ap ordering_reverse e) ∙ (same x y).0 e ∙ ap (λ r. cond (is_lt r) x y) (sym e)
  turn_by x y Greater e =
      ap (λ r. cond (is_lt r) y x) (o.antisymm y x ∙ ap ordering_reverse e) ∙ ap (λ r. cond (is_lt r) x y) (sym e)

  -- the first of two is the same in both orders
  pub turns : (x y : K) → ord_min cmp x y ≡ ord_min cmp y x
  turns x y = turn_by x y (cmp x y) refl

  -- y is not below b, and x is: then y is not below x
  stays_by : (b x y : K) (t : Bool) → is_lt (cmp y x) ≡ t → is_lt (cmp x b) ≡ true → is_lt (cmp y b) ≡ false → ord_min cmp x y ≡ x
  stays_by b x y true e p q =
      let below : cmp y b ≡ Less = o.trans y x b (is_Less (cmp y x) e) (is_Less (cmp x b) p) in
      let wrong : true ≡ false = sym (ap is_lt below) ∙ q in (cc)
  stays_by b x y false e p q = ap (λ t. cond t y x) e

  commutes_by : (b x y : K) (s t : Bool) → is_lt (cmp x b) ≡ s → is_lt (cmp y b) ≡ t
      → ord_min cmp (cond s x b) y ≡ ord_min cmp (cond t y b) x
  commutes_by b x y true true e f = turns x y
  commutes_by b x y true false e f = stays_by b x y (is_lt (cmp y x)) refl e f ∙ ap (λ t. cond t x b) (sym e)
  commutes_by b x y false true e f = ap (λ t. cond t y b) f ∙ sym (stays_by b y x (is_lt (cmp x y)) refl f e)
  commutes_by b x y false false e f = ap (λ t. cond t y b) f ∙ ap (λ t. cond t x b) (sym e)

  -- the first of three is the same whichever of two comes in first
  pub commutes : (b x y : K) → ord_min cmp (ord_min cmp b x) y ≡ ord_min cmp (ord_min cmp b y) x
  commutes b x y = commutes_by b x y (is_lt (cmp x b)) (is_lt (cmp y b)) refl refl

  -- the first value of all is the same in any order of the list
  pub first-IsPermutation : (xs ys : List K) → IsPermutation xs ys → reduce (ord_min cmp) xs ≡ reduce (ord_min cmp) ys
  first-IsPermutation = reduce-IsPermutation (ord_min cmp) turns commutes

  not_Greater : (x y : K) → is_lt (cmp x y) ≡ true → is_gt (cmp x y) ≡ false
  not_Greater x y e = ap is_gt (is_Less (cmp x y) e)

  flipped : (r : Ordering) → is_lt r ≡ false → is_gt (ordering_reverse r) ≡ false
  flipped Less e = cc
  flipped Equal e = refl
  flipped Greater e = refl

  -- neither of the two is before the first of them
  first_before : (b x : K) (t : Bool) → is_lt (cmp x b) ≡ t → (is_gt (cmp (cond t x b) b) ≡ false) × (is_gt (cmp (cond t x b) x) ≡ false)
  first_before b x true e = (not_Greater x b e, ap is_gt (tied_itself o x))
  first_before b x false e = (ap is_gt (tied_itself o b), ap is_gt (o.antisymm b x) ∙ flipped (cmp x b) e)

  first_of_all : (b : K) (xs : List K) → All (λ y. is_gt (cmp (fold (ord_min cmp) b xs) y) ≡ false) (b ∷ xs)
  first_of_all b [] = All-cons (λ y. is_gt (cmp b y) ≡ false) b [] (ap is_gt (tied_itself o b)) (All-nil (λ y. is_gt (cmp b y) ≡ false))
  first_of_all b (x ∷ xs) =
      let all = first_of_all (ord_min cmp b x) xs in
      let best : K = fold (ord_min cmp) (ord_min cmp b x) xs in
      let P : K → Type 0 = λ y. is_gt (cmp best y) ≡ false in
      let head : is_gt (cmp best (ord_min cmp b x)) ≡ false = All-head P (ord_min cmp b x) xs all in
      let two = first_before b x (is_lt (cmp x b)) refl in
      All-cons P b (x ∷ xs) (upto o best (ord_min cmp b x) b head two.0)
      (All-cons P x xs (upto o best (ord_min cmp b x) x head two.1) (All-tail P (ord_min cmp b x) xs all))

  among_by : (b x : K) (xs : List K) (t : Bool) (y : K) → Contains (cond t x b ∷ xs) y → Contains (b ∷ x ∷ xs) y
  among_by b x xs t y h = among_at b x xs t y h.0 h.1 h.2
    where
      among_at : (b x : K) (xs : List K) (t : Bool) (y : K) (i : ℕ) → i < length (cond t x b ∷ xs) → get_or (cond t x b ∷ xs) i y ≡ y → Contains (b ∷ x ∷ xs) y
      among_at b x xs true y zero low e = (1, omega arith, e)
      among_at b x xs false y zero low e = (0, omega arith, e)
      among_at b x xs t y (suc i) low e = (suc (suc i), omega arith, e)

  among_all : (b : K) (xs : List K) → Contains (b ∷ xs) (fold (ord_min cmp) b xs)
  among_all b [] = (0, omega arith, refl)
  among_all b (x ∷ xs) = among_by b x xs (is_lt (cmp x b)) (fold (ord_min cmp) (ord_min cmp b x) xs) (among_all (ord_min cmp b x) xs)

  -- the first value is one of the list, and none is before it
  pub first-law : (xs : List K) → IfSome (reduce (ord_min cmp) xs) (λ first. Contains xs first × All (λ y. IsTrue (is_le (cmp first y))) xs)
  first-law [] = tt
  first-law (x ∷ xs) = (
    among_all x xs,
    λ k d low. not_above (cmp (fold (ord_min cmp) x xs) (get_or (x ∷ xs) k d)) (first_of_all x xs k d low),
  )
