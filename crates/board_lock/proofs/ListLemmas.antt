-- Beginnings of lists, and how many seats are live.
use Rattle.std.proofs.Common.{◌≡◌, ℕ, zero, suc, ◌+◌, ◌<◌, ◌≤◌, ◌⊎◌, inl, inr, ⊎_elim, leb, Bool, true, false, cond, List, [], ◌∷◌, ◌++◌, length, get_or, drop, set, sym, refl, ap, ◌∙◌, arith, Option, append_assoc, append-nil}
use mathlib.Core.List.{IsPrefix}
use mathlib.Core.Option.{some, some-injective, some-ne-none}
use lib.ListN.{get_elem?}
use Rattle.board_lock.specs.declared.view.View.{View}
use Rattle.board_lock.specs.Views.{list_in, longer_of}
use Rattle.board_lock.specs.Rule.{one_if, seated}

module _ {A : Type 0} where
  -- a list begins with itself
  pub begins-itself : (xs : List A) → IsPrefix xs xs
  begins-itself xs = ([], append-nil xs)

  -- what begins a beginning begins the list
  pub begins-then : (xs ys zs : List A) → IsPrefix xs ys → IsPrefix ys zs → IsPrefix xs zs
  begins-then xs ys zs a b = (a.0 ++ b.0, sym (append_assoc xs a.0 b.0) ∙ (ap (λ (l : List A). l ++ b.0) a.1 ∙ b.1))

  -- of two beginnings of one list the shorter begins the longer
  pub begins-longer : (xs ys zs : List A) → IsPrefix xs zs → IsPrefix ys zs → length xs ≤ length ys → IsPrefix xs ys
  begins-longer [] ys zs a b h = (ys, refl)
  begins-longer (x ∷ xs) [] zs a b h = absurd (omega arith)
  begins-longer (x ∷ xs) (y ∷ ys) zs a b h =
      let heads : x ≡ y = ap (λ (l : List A). get_or l 0 x) (a.1 ∙ sym b.1) in
      let tails : xs ++ a.0 ≡ ys ++ b.0 = ap (λ (l : List A). drop 1 l) (a.1 ∙ sym b.1) in
      let rest = begins-longer xs ys (ys ++ b.0) (a.0, tails) (b.0, refl) (omega arith) in
      (rest.0, ap (λ (l : List A). x ∷ l) rest.1 ∙ ap (λ (h : A). h ∷ ys) heads)

-- what holds of both holds of the one that a test takes
one-is : {X : Type 0} (P : X → Type 0) (a b : X) → P a → P b → (test : Bool) → P (cond test b a)
one-is P a b pa pb true = pb
one-is P a b pa pb false = pa

-- of two noted states whose lists begin one list, both lists begin that of the longer one, which begins the one, too
module _ {S Entry : Type 0} (commits : S → List Entry) where
  choice : (a b : Option S) (home : List Entry) (test : Bool) → leb (length (list_in commits a)) (length (list_in commits b)) ≡ test
      → IsPrefix (list_in commits a) home → IsPrefix (list_in commits b) home
      → IsPrefix (list_in commits a) (list_in commits (cond test b a)) × IsPrefix (list_in commits b) (list_in commits (cond test b a)) × IsPrefix (list_in commits (cond test b a)) home
  choice a b home true is mine others = (begins-longer _ _ home mine others (grind (arith, is)), begins-itself _, others)
  choice a b home false is mine others = (begins-itself _, begins-longer _ _ home others mine (grind (arith, is)), mine)

  -- the longer of two lists that begin one begins with both, and begins the one, too
  pub begins-both : (a b : Option S) (home : List Entry) → IsPrefix (list_in commits a) home → IsPrefix (list_in commits b) home
      → IsPrefix (list_in commits a) (list_in commits (longer_of commits a b)) × IsPrefix (list_in commits b) (list_in commits (longer_of commits a b)) × IsPrefix (list_in commits (longer_of commits a b)) home
  begins-both a b home mine others = choice a b home (leb (length (list_in commits a)) (length (list_in commits b))) refl mine others

  -- what holds of two noted states holds of the longer one
  pub longer-is : (P : Option S → Type 0) (a b : Option S) → P a → P b → P (longer_of commits a b)
  longer-is P a b pa pb = one-is P a b pa pb (leb (length (list_in commits a)) (length (list_in commits b)))

module _ {S : Type 0} where
  -- as many are seated where one is as live as before
  pub seated-set : (views : List (View S)) (k : ℕ) (v w : View S) → get_elem? views k ≡ some v → v.live ≡ w.live → seated (set views k w) ≡ seated views
  seated-set [] k v w at e = absurd (some-ne-none v (sym at))
  seated-set (x ∷ xs) zero v w at e = ap (λ (b : Bool). one_if b + seated xs) (sym e ∙ ap (λ (u : View S). u.live) (sym (some-injective x v at)))
  seated-set (x ∷ xs) (suc k) v w at e = ap (λ (n : ℕ). one_if x.live + n) (seated-set xs k v w at e)

  -- one fewer is seated where one is spent
  pub seated-spent : (views : List (View S)) (k : ℕ) (v w : View S) → get_elem? views k ≡ some v → v.live ≡ true → w.live ≡ false → seated (set views k w) + 1 ≡ seated views
  seated-spent [] k v w at l d = absurd (some-ne-none v (sym at))
  seated-spent (x ∷ xs) zero v w at l d =
      let was : one_if x.live ≡ 1 = ap one_if (ap (λ (u : View S). u.live) (some-injective x v at) ∙ l) in
      let now : one_if w.live ≡ 0 = ap one_if d in
      omega arith
  seated-spent (x ∷ xs) (suc k) v w at l d = let rest = seated-spent xs k v w at l d in omega arith

  -- one more is seated where one is added
  pub seated-snoc : (views : List (View S)) (w : View S) → w.live ≡ true → seated (views ++ w ∷ []) ≡ seated views + 1
  seated-snoc [] w l = let one : one_if w.live ≡ 1 = ap one_if l in omega arith
  seated-snoc (x ∷ xs) w l = let rest = seated-snoc xs w l in omega arith

  -- where one is live, some are seated
  one-seat : (views : List (View S)) (k : ℕ) (v : View S) → get_elem? views k ≡ some v → v.live ≡ true → 1 ≤ seated views
  one-seat [] k v at l = absurd (some-ne-none v (sym at))
  one-seat (x ∷ xs) zero v at l = let one : one_if x.live ≡ 1 = ap one_if (ap (λ (u : View S). u.live) (some-injective x v at) ∙ l) in omega arith
  one-seat (x ∷ xs) (suc k) v at l = let rest = one-seat xs k v at l in omega arith

  -- where one seat alone is live, there are no two
  pub two-seats : (views : List (View S)) (k : ℕ) (v w : View S) → get_elem? views 0 ≡ some v → v.live ≡ true → get_elem? views (suc k) ≡ some w → w.live ≡ true → 2 ≤ seated views
  two-seats [] k v w a l b m = absurd (some-ne-none v (sym a))
  two-seats (x ∷ xs) k v w a l b m =
      let one : one_if x.live ≡ 1 = ap one_if (ap (λ (u : View S). u.live) (some-injective x v a) ∙ l) in
      let rest = one-seat xs k w b m in
      omega arith

  -- what stands at a place stands before the end
  pub there : (views : List (View S)) (k : ℕ) (v : View S) → get_elem? views k ≡ some v → k < length views
  there [] k v at = absurd (some-ne-none v (sym at))
  there (x ∷ xs) zero v at = omega arith
  there (x ∷ xs) (suc k) v at = let rest = there xs k v at in omega arith

-- what stands in a list with one more at its end stands before, or is that one
pub snoc-at : {A : Type 0} (xs : List A) (a b : A) (k : ℕ) → get_elem? (xs ++ a ∷ []) k ≡ some b → (get_elem? xs k ≡ some b) ⊎ ((k ≡ length xs) × (a ≡ b))
snoc-at [] a b zero e = inr (refl, some-injective a b e)
snoc-at [] a b (suc k) e = absurd (some-ne-none b (sym e))
snoc-at (x ∷ xs) a b zero e = inl e
snoc-at (x ∷ xs) a b (suc k) e = ⊎_elim (λ at. inl at) (λ t. inr (ap suc t.0, t.1)) (snoc-at xs a b k e)
