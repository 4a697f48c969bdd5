-- The distinct keys of a list in ascending order, made by inserting them one after another.
use Rattle.std.proofs.Common.{◌≡◌, ℕ, zero, suc, ◌<◌, ◌↔◌, List, [], ◌∷◌, length, get_or, refl, ap, sym, ◌∙◌, subst, arith}
use Rattle.std.specs.List.{All, AllPairs, Contains, fold}
use Rattle.std.specs.BTreeSet.{insert_key}
use Rattle.std.specs.Cmp.{IsTotalOrder}
use Rattle.std.specs.Ordering.{match_ordering, ordering_reverse}
use Rattle.std.specs.declared.cmp.Ordering.{Ordering}
use Rattle.std.specs.declared.cmp.Ordering.TheVariants.{Less, Equal, Greater}
use Rattle.std.proofs.lemmas.Cmp.{alike_right}
use Rattle.std.proofs.lemmas.List.Elements.{All-nil, All-cons, All-head, All-tail, All-weaker, All-contains_itself, All-contains}
use Rattle.std.proofs.lemmas.Map.Views.{All-insert_key}

module _ {K : Type 0} (cmp : K → K → Ordering) (o : IsTotalOrder cmp) (same : (x y : K) → (cmp x y ≡ Equal) ↔ (x ≡ y)) where
  turned : (x y : K) (r : Ordering) → cmp x y ≡ r → cmp y x ≡ ordering_reverse r
  turned x y r e = o.antisymm y x ∙ ap ordering_reverse e

  before : (ks : List K) (x k : K) → cmp k x ≡ Less → insert_key cmp (x ∷ ks) k ≡ k ∷ x ∷ ks
  before ks x k e = ap (λ r. match_ordering r (k ∷ x ∷ ks) (x ∷ ks) (x ∷ insert_key cmp ks k)) e

  there : (ks : List K) (x k : K) → cmp k x ≡ Equal → insert_key cmp (x ∷ ks) k ≡ x ∷ ks
  there ks x k e = ap (λ r. match_ordering r (k ∷ x ∷ ks) (x ∷ ks) (x ∷ insert_key cmp ks k)) e

  behind : (ks : List K) (x k : K) → cmp k x ≡ Greater → insert_key cmp (x ∷ ks) k ≡ x ∷ insert_key cmp ks k
  behind ks x k e = ap (λ r. match_ordering r (k ∷ x ∷ ks) (x ∷ ks) (x ∷ insert_key cmp ks k)) e

  -- two keys go in in either order
  abbrev Commutes : List K → K → K → Type 0
  Commutes ks a b = insert_key cmp (insert_key cmp ks a) b ≡ insert_key cmp (insert_key cmp ks b) a

  two : (a b : K) (r : Ordering) → cmp b a ≡ r → Commutes [] a b
  two a b Less e = before [] a b e ∙ sym (behind [] b a (turned b a Less e))
  two a b Equal e = there [] a b e ∙ ap (λ k. k ∷ []) (sym ((same b a).0 e)) ∙ sym (there [] b a (turned b a Equal e))
  two a b Greater e = behind [] a b e ∙ sym (before [] b a (turned b a Greater e))

  both_before : (ks : List K) (x a b : K) (r : Ordering) → cmp b a ≡ r → cmp a x ≡ Less → cmp b x ≡ Less → Commutes (x ∷ ks) a b
  both_before ks x a b Less e p q =
      ap (λ l. insert_key cmp l b) (before ks x a p) ∙ before (x ∷ ks) a b e
      ∙ ap (λ l. b ∷ l) (sym (before ks x a p)) ∙ sym (behind (x ∷ ks) b a (turned b a Less e)) ∙ ap (λ l. insert_key cmp l a) (sym (before ks x b q))
  both_before ks x a b Equal e p q =
      ap (λ l. insert_key cmp l b) (before ks x a p) ∙ there (x ∷ ks) a b e
      ∙ ap (λ k. k ∷ x ∷ ks) (sym ((same b a).0 e)) ∙ sym (there (x ∷ ks) b a (turned b a Equal e)) ∙ ap (λ l. insert_key cmp l a) (sym (before ks x b q))
  both_before ks x a b Greater e p q =
      ap (λ l. insert_key cmp l b) (before ks x a p) ∙ behind (x ∷ ks) a b e
      ∙ ap (λ l. a ∷ l) (before ks x b q) ∙ sym (before (x ∷ ks) b a (turned b a Greater e)) ∙ ap (λ l. insert_key cmp l a) (sym (before ks x b q))

  before_and_there : (ks : List K) (x a b : K) → cmp a x ≡ Less → cmp b x ≡ Equal → Commutes (x ∷ ks) a b
  before_and_there ks x a b p q =
      let below : cmp a b ≡ Less = alike_right o b x a q ∙ p in
      ap (λ l. insert_key cmp l b) (before ks x a p) ∙ behind (x ∷ ks) a b (turned a b Less below) ∙ ap (λ l. a ∷ l) (there ks x b q)
      ∙ sym (before ks x a p) ∙ ap (λ l. insert_key cmp l a) (sym (there ks x b q))

  before_and_behind : (ks : List K) (x a b : K) → cmp a x ≡ Less → cmp b x ≡ Greater → Commutes (x ∷ ks) a b
  before_and_behind ks x a b p q =
      let below : cmp a b ≡ Less = o.trans a x b p (turned b x Greater q) in
      ap (λ l. insert_key cmp l b) (before ks x a p) ∙ behind (x ∷ ks) a b (turned a b Less below) ∙ ap (λ l. a ∷ l) (behind ks x b q)
      ∙ sym (before (insert_key cmp ks b) x a p) ∙ ap (λ l. insert_key cmp l a) (sym (behind ks x b q))

  there_and_behind : (ks : List K) (x a b : K) → cmp a x ≡ Equal → cmp b x ≡ Greater → Commutes (x ∷ ks) a b
  there_and_behind ks x a b p q =
      ap (λ l. insert_key cmp l b) (there ks x a p) ∙ behind ks x b q
      ∙ sym (there (insert_key cmp ks b) x a p) ∙ ap (λ l. insert_key cmp l a) (sym (behind ks x b q))

  both_there : (ks : List K) (x a b : K) → cmp a x ≡ Equal → cmp b x ≡ Equal → Commutes (x ∷ ks) a b
  both_there ks x a b p q =
      ap (λ l. insert_key cmp l b) (there ks x a p) ∙ there ks x b q ∙ sym (there ks x a p) ∙ ap (λ l. insert_key cmp l a) (sym (there ks x b q))

  both_behind : (ks : List K) (x a b : K) → cmp a x ≡ Greater → cmp b x ≡ Greater → Commutes ks a b → Commutes (x ∷ ks) a b
  both_behind ks x a b p q h =
      ap (λ l. insert_key cmp l b) (behind ks x a p) ∙ behind (insert_key cmp ks a) x b q ∙ ap (λ l. x ∷ l) h
      ∙ sym (behind (insert_key cmp ks b) x a p) ∙ ap (λ l. insert_key cmp l a) (sym (behind ks x b q))

  by_places : (ks : List K) (x a b : K) (p q : Ordering) → cmp a x ≡ p → cmp b x ≡ q → Commutes ks a b → Commutes (x ∷ ks) a b
  by_places ks x a b Less Less e f h = both_before ks x a b (cmp b a) refl e f
  by_places ks x a b Less Equal e f h = before_and_there ks x a b e f
  by_places ks x a b Less Greater e f h = before_and_behind ks x a b e f
  by_places ks x a b Equal Less e f h = sym (before_and_there ks x b a f e)
  by_places ks x a b Equal Equal e f h = both_there ks x a b e f
  by_places ks x a b Equal Greater e f h = there_and_behind ks x a b e f
  by_places ks x a b Greater Less e f h = sym (before_and_behind ks x b a f e)
  by_places ks x a b Greater Equal e f h = sym (there_and_behind ks x b a f e)
  by_places ks x a b Greater Greater e f h = both_behind ks x a b e f h

  pub insert_key-commutes : (ks : List K) (a b : K) → insert_key cmp (insert_key cmp ks a) b ≡ insert_key cmp (insert_key cmp ks b) a
  insert_key-commutes [] a b = two a b (cmp b a) refl
  insert_key-commutes (x ∷ ks) a b = by_places ks x a b (cmp a x) (cmp b x) refl refl (insert_key-commutes ks a b)

  -- each key is below those behind it
  abbrev Ascends : List K → Type 0
  Ascends [] = Unit {0}
  Ascends (x ∷ ks) = All (λ y. cmp x y ≡ Less) ks × Ascends ks

  ascends_by : (ks : List K) (x k : K) (r : Ordering) → cmp k x ≡ r → Ascends (x ∷ ks) → Ascends (insert_key cmp ks k) → Ascends (insert_key cmp (x ∷ ks) k)
  ascends_by ks x k Less e h rest =
      subst Ascends (sym (before ks x k e))
      (All-cons (λ y. cmp k y ≡ Less) x ks e (All-weaker (λ y. cmp x y ≡ Less) (λ y. cmp k y ≡ Less) (λ y below. o.trans k x y e below) ks h.0), h)
  ascends_by ks x k Equal e h rest = subst Ascends (sym (there ks x k e)) h
  ascends_by ks x k Greater e h rest =
      subst Ascends (sym (behind ks x k e)) (All-insert_key cmp k (λ y. cmp x y ≡ Less) ks h.0 (turned k x Greater e), rest)

  ascends_one_more : (ks : List K) (k : K) → Ascends ks → Ascends (insert_key cmp ks k)
  ascends_one_more [] k h = (All-nil (λ y. cmp k y ≡ Less), tt)
  ascends_one_more (x ∷ ks) k h = ascends_by ks x k (cmp k x) refl h (ascends_one_more ks k h.1)

  ascends_all : (xs ks : List K) → Ascends ks → Ascends (fold (insert_key cmp) ks xs)
  ascends_all [] ks h = h
  ascends_all (x ∷ xs) ks h = ascends_all xs (insert_key cmp ks x) (ascends_one_more ks x h)

  pairs : (ks : List K) → Ascends ks → AllPairs (λ x y. cmp x y ≡ Less) ks
  pairs [] h i j d lt in' = absurd (omega arith)
  pairs (x ∷ ks) h i zero d lt in' = absurd (omega arith)
  pairs (x ∷ ks) h zero (suc j) d lt in' = h.0 j d (omega arith)
  pairs (x ∷ ks) h (suc i) (suc j) d lt in' = pairs ks h.1 i j d (omega arith) (omega arith)

  -- the keys ascend
  pub keys_ascend : (xs : List K) → AllPairs (λ x y. cmp x y ≡ Less) (fold (insert_key cmp) [] xs)
  keys_ascend xs = pairs (fold (insert_key cmp) [] xs) (ascends_all xs [] tt)

  all_kept : (P : K → Type 0) (xs ks : List K) → All P ks → All P xs → All P (fold (insert_key cmp) ks xs)
  all_kept P [] ks h g = h
  all_kept P (x ∷ xs) ks h g = all_kept P xs (insert_key cmp ks x) (All-insert_key cmp x P ks h (All-head P x xs g)) (All-tail P x xs g)

  in_front : (ks : List K) (x k : K) → x ≡ k → Contains (x ∷ ks) k
  in_front ks x k e = (0, omega arith, e)

  further : (ks : List K) (x k : K) → Contains ks k → Contains (x ∷ ks) k
  further ks x k h = (suc h.0, let low = h.1 in omega arith, h.2)

  new_by : (ks : List K) (x k : K) (r : Ordering) → cmp k x ≡ r → Contains (insert_key cmp ks k) k → Contains (insert_key cmp (x ∷ ks) k) k
  new_by ks x k Less e h = subst (λ l. Contains l k) (sym (before ks x k e)) (in_front (x ∷ ks) k k refl)
  new_by ks x k Equal e h = subst (λ l. Contains l k) (sym (there ks x k e)) (in_front ks x k (sym ((same k x).0 e)))
  new_by ks x k Greater e h = subst (λ l. Contains l k) (sym (behind ks x k e)) (further (insert_key cmp ks k) x k h)

  has_new : (ks : List K) (k : K) → Contains (insert_key cmp ks k) k
  has_new [] k = in_front [] k k refl
  has_new (x ∷ ks) k = new_by ks x k (cmp k x) refl (has_new ks k)

  old_at : (ks : List K) (x k y : K) (i : ℕ) → i < length (x ∷ ks) → get_or (x ∷ ks) i y ≡ y → (Contains ks y → Contains (insert_key cmp ks k) y) → Contains (x ∷ insert_key cmp ks k) y
  old_at ks x k y zero low e h = in_front (insert_key cmp ks k) x y e
  old_at ks x k y (suc i) low e h = further (insert_key cmp ks k) x y (h (i, omega arith, e))

  old_by : (ks : List K) (x k y : K) (r : Ordering) → cmp k x ≡ r → Contains (x ∷ ks) y → (Contains ks y → Contains (insert_key cmp ks k) y) → Contains (insert_key cmp (x ∷ ks) k) y
  old_by ks x k y Less e h deeper = subst (λ l. Contains l y) (sym (before ks x k e)) (further (x ∷ ks) k y h)
  old_by ks x k y Equal e h deeper = subst (λ l. Contains l y) (sym (there ks x k e)) h
  old_by ks x k y Greater e h deeper = subst (λ l. Contains l y) (sym (behind ks x k e)) (old_at ks x k y h.0 h.1 h.2 deeper)

  has_old : (ks : List K) (k y : K) → Contains ks y → Contains (insert_key cmp ks k) y
  has_old [] k y h = let low = h.1 in absurd (omega arith)
  has_old (x ∷ ks) k y h = old_by ks x k y (cmp k x) refl h (has_old ks k y)

  stays : (xs ks : List K) (y : K) → Contains ks y → Contains (fold (insert_key cmp) ks xs) y
  stays [] ks y h = h
  stays (x ∷ xs) ks y h = stays xs (insert_key cmp ks x) y (has_old ks x y h)

  all_in : (xs ks : List K) → All (Contains (fold (insert_key cmp) ks xs)) xs
  all_in [] ks = All-nil (Contains ks)
  all_in (x ∷ xs) ks =
      All-cons (Contains (fold (insert_key cmp) (insert_key cmp ks x) xs)) x xs (stays xs (insert_key cmp ks x) x (has_new ks x)) (all_in xs (insert_key cmp ks x))

  -- the keys are those of the list
  pub keys_are_those : (xs : List K) (y : K) → Contains (fold (insert_key cmp) [] xs) y ↔ Contains xs y
  keys_are_those xs y = (
    λ h. All-contains (Contains xs) (fold (insert_key cmp) [] xs) y (all_kept (Contains xs) xs [] (All-nil (Contains xs)) (All-contains_itself xs)) h,
    λ h. All-contains (Contains (fold (insert_key cmp) [] xs)) xs y (all_in xs []) h,
  )
