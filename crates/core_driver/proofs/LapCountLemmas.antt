-- How many elements of a list pass a test, where the test or the elements change.
use Rattle.core_driver.proofs.Words.{◌+◌, ◌<◌, ◌∙◌, ◌∷◌, ◌≡◌, ◌≤◌, [], All, All-head, All-tail, Any, ap, arith, Bool, cond, count_by, false, find, length, List, list_any, map, not, Option, refl, Some, suc, sum_by-cons, true, zero, ℕ}
use Rattle.std.proofs.Common.{◌||◌}

-- one, if a test passes
abbrev pub one_if : Bool → ℕ
one_if test = cond {A = ℕ} test 1 0

-- the first element, and the others
pub count-cons : {X : Type 0} (p : X → Bool) (x : X) (xs : List X) → count_by p (x ∷ xs) ≡ one_if (p x) + count_by p xs
count-cons p x xs = sum_by-cons (λ y. cond (p y) 1 0) x xs

-- a test that passes only where another does counts no more
one-le : (s t : Bool) → (s ≡ true → t ≡ true) → one_if s ≤ one_if t
one-le true true both = omega arith
one-le true false both = absurd (let apart : false ≡ true = both refl in cc)
one-le false true both = omega arith
one-le false false both = omega arith

-- no more elements pass the narrower test
pub count-le : {X : Type 0} (p q : X → Bool) (xs : List X) → All (λ x. p x ≡ true → q x ≡ true) xs → count_by p xs ≤ count_by q xs
count-le p q [] each = omega arith
count-le p q (x ∷ xs) each =
    let rest = count-le p q xs (All-tail (λ y. p y ≡ true → q y ≡ true) x xs each) in
    let here = one-le (p x) (q x) (All-head (λ y. p y ≡ true → q y ≡ true) x xs each) in
    omega (arith, count-cons p x xs, count-cons q x xs)

-- no more elements pass after a change that lets none pass which did not
pub count-map-le : {X : Type 0} (p : X → Bool) (change : X → X) → ((x : X) → p (change x) ≡ true → p x ≡ true) → (xs : List X)
    → count_by p (map change xs) ≤ count_by p xs
count-map-le p change each [] = omega arith
count-map-le p change each (x ∷ xs) =
    let rest = count-map-le p change each xs in
    let here = one-le (p (change x)) (p x) (each x) in
    omega (arith, count-cons p (change x) (map change xs), count-cons p x xs)

-- and fewer do where the first that passed does not any more
pub count-map-less : {X : Type 0} (p : X → Bool) (change : X → X) → ((x : X) → p (change x) ≡ true → p x ≡ true) → (xs : List X) (first : X)
    → find p xs ≡ Some first → p (change first) ≡ false → count_by p (map change xs) + 1 ≤ count_by p xs
count-map-less p change each [] first found turns = cc
count-map-less {X = X} p change each (x ∷ xs) first found turns = by_test (p x) refl found (count-map-less p change each xs first)
  where
    by_test : (t : Bool) → p x ≡ t → cond {A = Option X} t (Some x) (find p xs) ≡ Some first
        → (find p xs ≡ Some first → p (change first) ≡ false → count_by p (map change xs) + 1 ≤ count_by p xs)
        → count_by p (map change (x ∷ xs)) + 1 ≤ count_by p (x ∷ xs)
    by_test true is e behind =
        let same : x ≡ first = cc in
        let before : one_if (p x) ≡ 1 = ap one_if is in
        let now : one_if (p (change x)) ≡ 0 = ap (λ y. one_if (p (change y))) same ∙ ap one_if turns in
        let rest = count-map-le p change each xs in
        omega (arith, count-cons p (change x) (map change xs), count-cons p x xs)
    by_test false is e behind =
        let rest = behind e turns in
        let here = one-le (p (change x)) (p x) (each x) in
        omega (arith, count-cons p (change x) (map change xs), count-cons p x xs)

-- as many pass a test as pass the two of which it is made
pub count-both : {X : Type 0} (p q both : X → Bool) → ((x : X) → one_if (both x) ≡ one_if (p x) + one_if (q x)) → (xs : List X)
    → count_by both xs ≡ count_by p xs + count_by q xs
count-both p q both each [] = refl
count-both p q both each (x ∷ xs) =
    let rest = count-both p q both each xs in
    let here = each x in
    omega (arith, count-cons both x xs, count-cons p x xs, count-cons q x xs)

-- one of two tests counts no more than both
one-or : (s t : Bool) → one_if (s || t) ≤ one_if s + one_if t
one-or true true = omega arith
one-or true false = omega arith
one-or false true = omega arith
one-or false false = omega arith

-- at most as many pass one of two tests as pass each of them
pub count-or : {X : Type 0} (p q : X → Bool) (xs : List X) → count_by (λ x. p x || q x) xs ≤ count_by p xs + count_by q xs
count-or p q [] = omega arith
count-or p q (x ∷ xs) =
    let rest = count-or p q xs in
    let here = one-or (p x) (q x) in
    omega (arith, count-cons (λ y. p y || q y) x xs, count-cons p x xs, count-cons q x xs)

-- what never passes
pub count-none : {X : Type 0} (xs : List X) → count_by (λ x. false) xs ≡ 0
count-none [] = refl
count-none (x ∷ xs) =
    let rest = count-none xs in
    omega (arith, count-cons (λ y. false) x xs)

-- where each of some holds at most one element, and none unless it counts, they hold at most as many as count
pub count-held : {X Y : Type 0} (held : Y → X → Bool) (counts : Y → Bool) (ys : List Y) (xs : List X)
    → All (λ y. count_by (held y) xs ≤ one_if (counts y)) ys → count_by (λ x. list_any (λ y. held y x) ys) xs ≤ count_by counts ys
count-held held counts [] xs each = omega (arith, count-none xs)
count-held held counts (y ∷ ys) xs each =
    let rest = count-held held counts ys xs (All-tail (λ z. count_by (held z) xs ≤ one_if (counts z)) y ys each) in
    let here = All-head (λ z. count_by (held z) xs ≤ one_if (counts z)) y ys each in
    let either = count-or (held y) (λ x. list_any (λ z. held z x) ys) xs in
    omega (arith, count-cons counts y ys)

-- where not all elements fail, one passes
pub count-some : {X : Type 0} (p : X → Bool) (xs : List X) → count_by (λ x. not (p x)) xs < length xs → Any (λ x. p x ≡ true) xs
count-some p [] less = absurd (omega arith)
count-some {X = X} p (x ∷ xs) less = by_test (p x) refl (count-some p xs)
  where
    by_test : (t : Bool) → p x ≡ t → (count_by (λ y. not (p y)) xs < length xs → Any (λ y. p y ≡ true) xs) → Any (λ y. p y ≡ true) (x ∷ xs)
    by_test true is rest = (zero, x, omega arith, refl, is)
    by_test false is rest =
        let one : one_if (not (p x)) ≡ 1 = ap (λ t. one_if (not t)) is in
        let later = rest (omega (arith, count-cons (λ y. not (p y)) x xs)) in
        (suc later.0, later.1, (let low = later.2 in omega arith), later.3, later.4)

-- where one is found, one passes
pub count-one : {X : Type 0} (p : X → Bool) (xs : List X) (first : X) → find p xs ≡ Some first → 1 ≤ count_by p xs
count-one p [] first found = cc
count-one {X = X} p (x ∷ xs) first found = by_test (p x) refl found (count-one p xs first)
  where
    by_test : (t : Bool) → p x ≡ t → cond {A = Option X} t (Some x) (find p xs) ≡ Some first → (find p xs ≡ Some first → 1 ≤ count_by p xs)
        → 1 ≤ count_by p (x ∷ xs)
    by_test true is e behind =
        let one : one_if (p x) ≡ 1 = ap one_if is in
        omega (arith, count-cons p x xs)
    by_test false is e behind =
        let rest = behind e in
        omega (arith, count-cons p x xs)
