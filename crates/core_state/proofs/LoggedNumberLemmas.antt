-- Ascending numbers are the members of a range that a filter keeps.
use Rattle.core_state.proofs.Words.{◌+◌, ◌<◌, ◌==◌, ◌∙◌, ◌∷◌, ◌≡◌, ◌≢◌, ◌≤◌, [], All, All-head, All-tail, all_pairs_head, all_pairs_tail, AllPairs, ap, arith, Bool, cond, false, filter, List, nat_tests, range_with_len, refl, subst, suc, sym, true, zero, ℕ}
use Rattle.std.specs.Prelude.{◌||◌}

pub same-number : (n : ℕ) → (n == n) ≡ true
same-number n = grind (arith, nat_tests)

pub other-number : (n m : ℕ) → n ≢ m → (n == m) ≡ false
other-number n m apart = grind (arith, nat_tests)

number-by : (n m : ℕ) → (n == m) ≡ true → n ≡ m
number-by n m is = grind (arith, nat_tests)

pub next-number : (n m : ℕ) → (suc n == suc m) ≡ (n == m)
next-number n m = by_test (n == m) refl
  where
    by_test : (t : Bool) → (n == m) ≡ t → (suc n == suc m) ≡ (n == m)
    by_test true is = grind (arith, nat_tests)
    by_test false is = grind (arith, nat_tests)

below : (n m : ℕ) → n ≤ m → (m == n) ≡ false → n < m
below n m low is = grind (arith, nat_tests)

-- Ascending numbers.

-- whether a number is one of these
abbrev pub has : List ℕ → ℕ → Bool
has [] x = false
has (y ∷ ys) x = (y == x) || has ys x

-- numbers that ascend from a first on, each below a limit
abbrev pub AscendsFrom : (first limit : ℕ) → List ℕ → Type 0
AscendsFrom first limit [] = Unit {0}
AscendsFrom first limit (x ∷ xs) = (first ≤ x) × (x < limit) × AscendsFrom (suc x) limit xs

pub ascends-by : (first limit : ℕ) (xs : List ℕ) → AllPairs (λ x y. x < y) xs → All (λ x. first ≤ x) xs → All (λ x. x < limit) xs
    → AscendsFrom first limit xs
ascends-by first limit [] pairs low high = tt
ascends-by first limit (x ∷ xs) pairs low high = (
  All-head (λ y. first ≤ y) x xs low,
  All-head (λ y. y < limit) x xs high,
  ascends-by (suc x) limit xs (all_pairs_tail (λ y z. y < z) x xs pairs)
      (λ k d within. let above = all_pairs_head (λ y z. y < z) x xs pairs k d within in omega arith)
      (All-tail (λ y. y < limit) x xs high),
)

ascends-later : (first later limit : ℕ) (xs : List ℕ) → later ≤ first → AscendsFrom first limit xs → AscendsFrom later limit xs
ascends-later first later limit [] low ascends = tt
ascends-later first later limit (x ∷ xs) low ascends = (let above = ascends.0 in omega arith, ascends.1, ascends.2)

not-below : (first limit x : ℕ) (xs : List ℕ) → x < first → AscendsFrom first limit xs → has xs x ≡ false
not-below first limit x [] below ascends = refl
not-below first limit x (y ∷ ys) below ascends =
    let above = ascends.0 in
    let apart : (y == x) ≡ false = other-number y x (λ same. absurd (omega arith)) in
    rw apart (not-below (suc y) limit x ys (omega arith) ascends.2)

-- a filter that keeps from a range the members of an ascending list gives the list
pub kept-of-range : (f : ℕ → Bool) (count first : ℕ) (xs : List ℕ) → AscendsFrom first (first + count) xs
    → ((x : ℕ) → first ≤ x → f x ≡ has xs x) → filter f (range_with_len first count) ≡ xs
kept-of-range f zero first [] ascends keeps = refl
kept-of-range f zero first (x ∷ xs) ascends keeps = let low = ascends.0 in let high = ascends.1 in absurd (omega arith)
kept-of-range f (suc count) first [] ascends keeps =
    rw (keeps first (omega arith)) (kept-of-range f count (first + 1) [] tt (λ x low. keeps x (omega arith)))
kept-of-range f (suc count) first (x ∷ xs) ascends keeps = by_test (kept-of-range f count (first + 1)) (x == first) refl
  where
    limit : first + suc count ≡ first + 1 + count
    limit = omega arith

    rest : List ℕ
    rest = filter f (range_with_len (first + 1) count)

    by_test : ((ys : List ℕ) → AscendsFrom (first + 1) (first + 1 + count) ys → ((y : ℕ) → first + 1 ≤ y → f y ≡ has ys y) → rest ≡ ys)
        → (t : Bool) → (x == first) ≡ t → cond (f first) (first ∷ rest) rest ≡ x ∷ xs
    by_test more true is =
        let same : x ≡ first = number-by x first is in
        let here : f first ≡ true = keeps first (omega arith) ∙ ap (λ t. t || has xs first) is in
        let above : AscendsFrom (first + 1) (first + 1 + count) xs =
        subst (λ n. AscendsFrom (first + 1) n xs) limit
        (ascends-later (suc x) (first + 1) (first + suc count) xs (omega arith) ascends.2) in
        let same_rest : rest ≡ xs =
        more xs above (λ y low. keeps y (omega arith) ∙ ap (λ t. t || has xs y) (other-number x y (λ equal. absurd (omega arith)))) in
        ap (λ t. cond t (first ∷ rest) rest) here ∙ ap (λ ys. first ∷ ys) same_rest ∙ ap (λ y. y ∷ xs) (sym same)
    by_test more false is =
        let low = ascends.0 in
        let above : first < x = below first x low is in
        let here : f first ≡ false =
        keeps first (omega arith) ∙ not-below x (first + suc count) first (x ∷ xs) above (omega arith, ascends.1, ascends.2) in
        ap (λ t. cond t (first ∷ rest) rest) here
        ∙ more (x ∷ xs) (subst (λ n. AscendsFrom (first + 1) n (x ∷ xs)) limit (omega arith, ascends.1, ascends.2))
        (λ y low. keeps y (omega arith))

-- a filter keeps nothing more of a longer range, where its test is false of what is past the end
pub kept-of-longer : (f : ℕ → Bool) (count total first : ℕ) → count ≤ total → ((x : ℕ) → first + count ≤ x → f x ≡ false)
    → filter f (range_with_len first total) ≡ filter f (range_with_len first count)
kept-of-longer f zero zero first low past = refl
kept-of-longer f (suc count) zero first low past = absurd (omega arith)
kept-of-longer f zero (suc total) first low past =
    rw (past first (omega arith)) (kept-of-longer f zero total (first + 1) (omega arith) (λ x above. past x (omega arith)))
kept-of-longer f (suc count) (suc total) first low past =
    ap (λ kept. cond (f first) (first ∷ kept) kept) (kept-of-longer f count total (first + 1) (omega arith) (λ x above. past x (omega arith)))
