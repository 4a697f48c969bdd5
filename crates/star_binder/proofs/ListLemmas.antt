-- Tests over lists, and lists made from the numbers below another.
use Rattle.std.proofs.Common.{◌≡◌, ℕ, suc, ◌+◌, ◌<◌, ◌≤◌, ◌⊎◌, Bool, true, false, cond, ◌||◌, List, [], ◌∷◌, ◌++◌, map, drop, get_or, length, slice_get, Option, Some, None, refl, ap, sym, ◌∙◌, append-nil, inl, inr, arith}
use Rattle.std.specs.List.{All, Contains, find, list_any, range_with_len}
use Rattle.std.specs.Option.{option_map_or}
use Rattle.std.proofs.lemmas.Bool.{cases_lt, or_from, or_parts}
use Rattle.std.proofs.lemmas.List.{at_drop_all, at_drop_more, map-append}
use Rattle.std.proofs.lemmas.List.Elements.{All-cons, All-nil}
use Rattle.std.proofs.lemmas.List.Folds.{Any-from_list_any, list_any-from_Any}
use Rattle.std.proofs.lemmas.List.FromFn.{length-map-range_with_len, get_or-map-range_with_len, map-range_with_len_more}
use Rattle.std.proofs.lemmas.Option.{slice_get-get_or, slice_get_past}

-- where no element passes a test, each fails it
pub All-fails : {X : Type 0} (p : X → Bool) (xs : List X) → list_any p xs ≡ false → All (λ x. p x ≡ false) xs
All-fails p [] h = All-nil (λ x. p x ≡ false)
All-fails p (x ∷ xs) h =
    let two = or_parts (p x) (list_any p xs) h in
    All-cons (λ y. p y ≡ false) x xs two.0 (All-fails p xs two.1)

-- none of two lists passes a test where none of both does
pub list_any_parts : {X : Type 0} (p : X → Bool) (xs ys : List X) → list_any p (xs ++ ys) ≡ false → (list_any p xs ≡ false) × (list_any p ys ≡ false)
list_any_parts p [] ys h = (refl, h)
list_any_parts p (x ∷ xs) ys h =
    let two = or_parts (p x) (list_any p (xs ++ ys)) h in
    let rest = list_any_parts p xs ys two.1 in
    (or_from (p x) (list_any p xs) two.0 rest.0, rest.1)

-- the same of what is made of two lists
pub list_any_mapped_parts : {X Y : Type 0} (p : Y → Bool) (f : X → Y) (xs ys : List X) → list_any p (map f (xs ++ ys)) ≡ false
    → (list_any p (map f xs) ≡ false) × (list_any p (map f ys) ≡ false)
list_any_mapped_parts p f [] ys h = (refl, h)
list_any_mapped_parts p f (x ∷ xs) ys h =
    let two = or_parts (p (f x)) (list_any p (map f (xs ++ ys))) h in
    let rest = list_any_mapped_parts p f xs ys two.1 in
    (or_from (p (f x)) (list_any p (map f xs)) two.0 rest.0, rest.1)

-- one element alone
pub list_any_lone : {X : Type 0} (p : X → Bool) (x : X) → list_any p (x ∷ []) ≡ false → p x ≡ false
list_any_lone p x h = (or_parts (p x) false h).0

-- an element that passes a test, where one does
pub Contains-passes : {X : Type 0} (p : X → Bool) (xs : List X) → list_any p xs ≡ true → (x : X) × Contains xs x × (p x ≡ true)
Contains-passes p xs h =
    let found = Any-from_list_any p xs h in
    (found.1, (found.0, found.2, found.3), found.4)

-- an element that passes a test is found
pub list_any-passes : {X : Type 0} (p : X → Bool) (xs : List X) (x : X) → Contains xs x → p x ≡ true → list_any p xs ≡ true
list_any-passes p xs x h e = list_any-from_Any p xs (h.0, x, h.1, h.2, e)

-- the first element that passes a test, where one does
pub find_passes : {X : Type 0} (p : X → Bool) (xs : List X) → list_any p xs ≡ true → (x : X) × (find p xs ≡ Some x) × (p x ≡ true) × Contains xs x
find_passes p [] h = cc
find_passes p (x ∷ xs) h = first p x xs (p x) refl h (find_passes p xs)
  where
    first : {X : Type 0} (p : X → Bool) (x : X) (xs : List X) (t : Bool) → p x ≡ t → (t || list_any p xs) ≡ true
        → (list_any p xs ≡ true → (y : X) × (find p xs ≡ Some y) × (p y ≡ true) × Contains xs y)
        → (y : X) × (cond t (Some x) (find p xs) ≡ Some y) × (p y ≡ true) × Contains (x ∷ xs) y
    first p x xs true e h later = (x, refl, e, (0, omega arith, refl))
    first p x xs false e h later =
        let found = later h in
        let low = found.3.1 in
        (found.0, found.1, found.2, (suc found.3.0, omega arith, found.3.2))

-- a list made from the numbers below another: it has what is made of a number below, and else nothing
pub slice_get-made : {X : Type 0} (f : ℕ → X) (n i : ℕ)
    → ((i < n) × (slice_get (map f (range_with_len 0 n)) i ≡ Some (f i))) ⊎ ((n ≤ i) × (slice_get (map f (range_with_len 0 n)) i ≡ None))
slice_get-made f n i = by f n i (cases_lt i n)
  where
    by : {X : Type 0} (f : ℕ → X) (n i : ℕ) → (i < n) ⊎ (n ≤ i)
        → ((i < n) × (slice_get (map f (range_with_len 0 n)) i ≡ Some (f i))) ⊎ ((n ≤ i) × (slice_get (map f (range_with_len 0 n)) i ≡ None))
    by f n i (inl low) =
        inl (
          low,
          slice_get-get_or (map f (range_with_len 0 n)) i (f i) (omega (arith, length-map-range_with_len f 0 n))
              ∙ ap Some (get_or-map-range_with_len f 0 n i i (f i) low (omega arith)),
        )
    by f n i (inr past) = inr (past, slice_get_past (map f (range_with_len 0 n)) i (omega (arith, length-map-range_with_len f 0 n)))

-- a value that a test was passed on is there
pub Some-passes : {X : Type 0} (p : X → Bool) (o : Option X) → option_map_or p o false ≡ true → (x : X) × (o ≡ Some x) × (p x ≡ true)
Some-passes p None h = cc
Some-passes p (Some x) h = (x, refl, h)

-- what is so far is all once nothing is left
pub made_all : {X Y : Type 0} (f : X → Y) (xs : List X) (made : List Y) (i : ℕ) → length xs ≤ i → made ++ map f (drop i xs) ≡ map f xs → made ≡ map f xs
made_all f xs made i h e = sym (append-nil made) ∙ sym (at_drop_all (λ left. made ++ map f left) xs i h) ∙ e

-- what is made of one number more
pub made_more : {X Y : Type 0} (view : X → Y) (f : ℕ → Y) (old new : List X) (x : X) (n : ℕ) → new ≡ old ++ x ∷ [] → view x ≡ f n
    → map view old ≡ map f (range_with_len 0 n) → map view new ≡ map f (range_with_len 0 (n + 1))
made_more view f old new x n added here before =
    ap (map view) added ∙ map-append view old (x ∷ []) ∙ ap (λ (z : List _). z ++ view x ∷ []) before
    ∙ ap (λ (y : _). map f (range_with_len 0 n) ++ y ∷ []) here ∙ sym (map-range_with_len_more f 0 n n (omega arith))

-- whether a member passes a test, from one place on
any_from : {X Y : Type 0} (p : Y → Bool) (v : X → Y) (xs : List X) (i : ℕ) (x : X) → i < length xs → x ≡ get_or xs i x
    → list_any p (map v (drop i xs)) ≡ (p (v x) || list_any p (map v (drop (i + 1) xs)))
any_from p v xs i x low here =
    at_drop_more (λ left. list_any p (map v left)) xs i x low ∙ ap (λ y. p (v y) || list_any p (map v (drop (i + 1) xs))) (sym here)

-- one that passes settles it
pub any_found : {X Y : Type 0} (p : Y → Bool) (v : X → Y) (xs : List X) (i : ℕ) (x : X) → i < length xs → x ≡ get_or xs i x → p (v x) ≡ true
    → list_any p (map v (drop i xs)) ≡ list_any p (map v xs) → true ≡ list_any p (map v xs)
any_found p v xs i x low here e before =
    sym (ap (λ b. b || list_any p (map v (drop (i + 1) xs))) e) ∙ sym (any_from p v xs i x low here) ∙ before

-- and one that does not leaves it to those behind it
pub any_left : {X Y : Type 0} (p : Y → Bool) (v : X → Y) (xs : List X) (i : ℕ) (x : X) → i < length xs → x ≡ get_or xs i x → p (v x) ≡ false
    → list_any p (map v (drop i xs)) ≡ list_any p (map v xs) → list_any p (map v (drop (i + 1) xs)) ≡ list_any p (map v xs)
any_left p v xs i x low here e before =
    sym (ap (λ b. b || list_any p (map v (drop (i + 1) xs))) e) ∙ sym (any_from p v xs i x low here) ∙ before
