-- Entries in the order of their keys are known by what is found at each key.
use Rattle.std.proofs.Common.{◌≡◌, ℕ, zero, suc, ◌+◌, ◌<◌, Bool, true, false, true≢false, List, [], ◌∷◌, length, map, get_or, Option, None, Some, refl, ap, sym, ◌∙◌, arith}
use Rattle.std.specs.Prelude.{Contains}
use Rattle.std.specs.Cmp.{IsTotalOrder, eq_by_cmp_equiv}
use Rattle.std.specs.List.{AllPairs, IsDistinct}
use Rattle.std.specs.List.Sorted.{IsSorted, IsStrictlySortedBy}
use Rattle.std.specs.Map.{keys_of, lookup}
use Rattle.std.specs.Option.{unwrap_or}
use Rattle.std.specs.Ordering.{eq_by_cmp, is_eq, is_lt, ordering_reverse}
use Rattle.std.specs.declared.cmp.Ordering.{Ordering}
use Rattle.std.specs.declared.cmp.Ordering.TheVariants.{Less, Equal, Greater}
use Rattle.std.proofs.lemmas.Cmp.{tied_itself}
use Rattle.std.proofs.lemmas.List.{get_or-map, length-map}
use Rattle.std.proofs.lemmas.Map.{lookup-none}
use Rattle.std.proofs.lemmas.Map.Entries.{lookup_head, lookup_tail, none_past_head, none_below_head}
use Rattle.std.proofs.lemmas.Map.Keys.{IsDistinct-from_sorted, apart_from_distinct, sorted_tail, sorted_from_all_adjacent}

not_some : {X : Type 0} (x : X) → ¬ (None ≡ Some x)
not_some x e = cc

-- Members of what is made of each.

pub contains_map : {X Y : Type 0} (f : X → Y) (xs : List X) (x : X) → Contains xs x → Contains (map f xs) (f x)
contains_map f xs x (k, low, at) =
    let all = length-map xs f in
    (k, omega arith, get_or-map f xs k x (f x) low ∙ ap f at)

pub contains_unmap : {X Y : Type 0} (f : X → Y) (xs : List X) (y : Y) → Contains (map f xs) y → (x : X) × Contains xs x × (f x ≡ y)
contains_unmap f [] y (k, low, at) = absurd (omega arith)
contains_unmap f (x ∷ xs) y (zero, low, at) = (x, (0, omega arith, refl), at)
contains_unmap f (x ∷ xs) y (suc k, low, at) =
    let rest = contains_unmap f xs y (k, omega arith, at) in
    (rest.0, (suc rest.1.0, omega (arith, rest.1.1), rest.1.2), rest.2)

module _ {K : Type 0} {R : K → K → Ordering} (o : IsTotalOrder R) where
  less_by : (x y : K) (r : Ordering) → R x y ≡ r → is_lt (R y x) ≡ false → eq_by_cmp R x y ≡ false → R x y ≡ Less
  less_by x y Less p up apart = p
  less_by x y Equal p up apart = absurd (true≢false (sym (ap is_eq p) ∙ apart))
  less_by x y Greater p up apart = absurd (true≢false (sym (ap is_lt (o.antisymm y x ∙ ap ordering_reverse p)) ∙ up))

  -- keys in order, no two the same, ascend
  pub ascending_keys : (ks : List K) (d : K) → IsSorted R ks → IsDistinct (eq_by_cmp R) ks → IsStrictlySortedBy R ks
  ascending_keys ks d sorted distinct =
      sorted_from_all_adjacent o ks d (λ k low. less_by (get_or ks k d) (get_or ks (k + 1) d) (R (get_or ks k d) (get_or ks (k + 1) d)) refl
      (sorted k d (omega arith) low) (apart_from_distinct (eq_by_cmp R) ks k (k + 1) d distinct (omega arith) low))

  pub ascending_pairs : (ks : List K) (d : K) → AllPairs (λ x y. R x y ≡ Less) ks → IsStrictlySortedBy R ks
  ascending_pairs ks d pairs = sorted_from_all_adjacent o ks d (λ k low. pairs k (k + 1) d (omega arith) low)

  module _ (exact : (x y : K) → R x y ≡ Equal → x ≡ y) where
    exact_by : (q k : K) (r : Ordering) → R q k ≡ r → eq_by_cmp R q k ≡ true → q ≡ k
    exact_by q k Less p e = absurd (true≢false (sym e ∙ ap is_eq p))
    exact_by q k Equal p e = exact q k p
    exact_by q k Greater p e = absurd (true≢false (sym e ∙ ap is_eq p))

module _ {K X : Type 0} {R : K → K → Ordering} (o : IsTotalOrder R) (exact : (x y : K) → R x y ≡ Equal → x ≡ y) where
  abbrev find : List (K × X) → K → Option X
  find es q = lookup (eq_by_cmp R q) es

  at_head : (x : K × X) (xs : List (K × X)) → find (x ∷ xs) x.0 ≡ Some x.1
  at_head x xs = lookup_head (eq_by_cmp R x.0) x xs (ap is_eq (tied_itself o x.0))

  past_head : (q : K) (x : K × X) (xs : List (K × X)) → IsStrictlySortedBy R (keys_of (x ∷ xs)) → eq_by_cmp R q x.0 ≡ true → find xs q ≡ None
  past_head q x xs s t = lookup-none (eq_by_cmp R q) xs (none_past_head (eq_by_cmp_equiv o) q x xs (IsDistinct-from_sorted R _ s) t)

  module _ (x y : K × X) (xs ys : List (K × X)) (s : IsStrictlySortedBy R (keys_of (x ∷ xs))) (t : IsStrictlySortedBy R (keys_of (y ∷ ys)))
      (h : (q : K) → find (x ∷ xs) q ≡ find (y ∷ ys) q) where
    by_heads : (r : Ordering) → R x.0 y.0 ≡ r → R x.0 y.0 ≡ Equal
    by_heads Less p = absurd (not_some x.1 (sym (lookup-none _ (y ∷ ys) (none_below_head o x.0 y ys t p)) ∙ sym (h x.0) ∙ at_head x xs))
    by_heads Equal p = p
    by_heads Greater p =
        absurd (not_some y.1 (sym (lookup-none _ (x ∷ xs) (none_below_head o y.0 x xs s (o.antisymm y.0 x.0 ∙ ap ordering_reverse p))) ∙ h y.0 ∙ at_head y ys))

    heads : R x.0 y.0 ≡ Equal
    heads = by_heads (R x.0 y.0) refl

    firsts : x.1 ≡ y.1
    firsts = ap (λ u. unwrap_or u x.1) (sym (at_head x xs) ∙ h x.0 ∙ lookup_head (eq_by_cmp R x.0) y ys (ap is_eq heads))

    tails : (q : K) → find xs q ≡ find ys q
    tails q =
        let e : eq_by_cmp R q y.0 ≡ eq_by_cmp R q x.0 = ap (eq_by_cmp R q) (sym (exact x.0 y.0 heads)) in
        by (eq_by_cmp R q x.0) refl e
      where
        by : (same : Bool) → eq_by_cmp R q x.0 ≡ same → eq_by_cmp R q y.0 ≡ eq_by_cmp R q x.0 → find xs q ≡ find ys q
        by true b e = past_head q x xs s b ∙ sym (past_head q y ys t (e ∙ b))
        by false b e = sym (lookup_tail (eq_by_cmp R q) x xs b) ∙ h q ∙ lookup_tail (eq_by_cmp R q) y ys (e ∙ b)

  -- entries in order at whose keys the same is found are the same
  pub same_entries : (es fs : List (K × X)) → IsStrictlySortedBy R (keys_of es) → IsStrictlySortedBy R (keys_of fs)
      → ((q : K) → find es q ≡ find fs q) → es ≡ fs
  same_entries [] [] s t h = refl
  same_entries [] (y ∷ ys) s t h = absurd (not_some y.1 (h y.0 ∙ at_head y ys))
  same_entries (x ∷ xs) [] s t h = absurd (not_some x.1 (sym (h x.0) ∙ at_head x xs))
  same_entries (x ∷ xs) (y ∷ ys) s t h =
      let rest = same_entries xs ys (sorted_tail R x.0 (keys_of xs) s) (sorted_tail R y.0 (keys_of ys) t) (tails x y xs ys s t h) in
      λ i. (exact x.0 y.0 (heads x y xs ys s t h) i, firsts x y xs ys s t h i) ∷ rest i

  -- What is found where each key has what a function makes of it.

  abbrev pub pairs_of : (K → X) → List K → List (K × X)
  pairs_of f ks = map (λ k. (k, f k)) ks

  pub keys-pairs_of : (f : K → X) (ks : List K) → keys_of (pairs_of f ks) ≡ ks
  keys-pairs_of f [] = refl
  keys-pairs_of f (k ∷ ks) = ap (λ rest. k ∷ rest) (keys-pairs_of f ks)

  found_by : (f : K → X) (k q : K) (ks : List K) (same : Bool) → eq_by_cmp R q k ≡ same → (n : ℕ) → n < length (k ∷ ks) → get_or (k ∷ ks) n q ≡ q
      → (Contains ks q → find (pairs_of f ks) q ≡ Some (f q)) → find (pairs_of f (k ∷ ks)) q ≡ Some (f q)
  found_by f k q ks true e n low at later =
      lookup_head (eq_by_cmp R q) (k, f k) (pairs_of f ks) e ∙ ap (λ key. Some (f key)) (sym (exact_by o exact q k (R q k) refl e))
  found_by f k q ks false e zero low at later = absurd (true≢false (sym (ap is_eq (tied_itself o q)) ∙ ap (eq_by_cmp R q) (sym at) ∙ e))
  found_by f k q ks false e (suc n) low at later = lookup_tail (eq_by_cmp R q) (k, f k) (pairs_of f ks) e ∙ later (n, omega arith, at)

  pub found_in : (f : K → X) (ks : List K) (q : K) → Contains ks q → find (pairs_of f ks) q ≡ Some (f q)
  found_in f [] q (n, low, at) = absurd (omega arith)
  found_in f (k ∷ ks) q (n, low, at) = found_by f k q ks (eq_by_cmp R q k) refl n low at (found_in f ks q)

  missing_by : (f : K → X) (k q : K) (ks : List K) (same : Bool) → eq_by_cmp R q k ≡ same → ¬ (Contains (k ∷ ks) q)
      → (¬ (Contains ks q) → find (pairs_of f ks) q ≡ None) → find (pairs_of f (k ∷ ks)) q ≡ None
  missing_by f k q ks true e missing later = absurd (missing (0, omega arith, sym (exact_by o exact q k (R q k) refl e)))
  missing_by f k q ks false e missing later =
      lookup_tail (eq_by_cmp R q) (k, f k) (pairs_of f ks) e
      ∙ later (λ there. missing (suc there.0, omega (arith, there.1), there.2))

  pub missing_in : (f : K → X) (ks : List K) (q : K) → ¬ (Contains ks q) → find (pairs_of f ks) q ≡ None
  missing_in f [] q missing = refl
  missing_in f (k ∷ ks) q missing = missing_by f k q ks (eq_by_cmp R q k) refl missing (missing_in f ks q)
