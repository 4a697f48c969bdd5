-- What a test that finds nothing in a list says of its members.
use Rattle.std.proofs.Common.{◌≡◌, ℕ, zero, suc, ◌+◌, ◌-◌, ◌<◌, ◌≤◌, Bool, true, false, cond, not, ◌||◌, nat_lt, List, [], ◌∷◌, length, Some, None, is_some, refl, ap, sym, ◌∙◌, arith}
use Rattle.std.specs.List.{All, AllPairs, count_by, filter, list_any, position, position_or_len, range_with_len}
use Rattle.std.proofs.lemmas.Bool.Decides.{nat_tests}
use Rattle.std.proofs.lemmas.List.Elements.{All-nil, All-cons}
use Rattle.std.proofs.lemmas.List.Kept.{AllPairs-cons}
use Rattle.std.proofs.lemmas.List.Sums.{length-filter}

first_false : (a b : Bool) → (a || b) ≡ false → a ≡ false
first_false true b e = e
first_false false b e = refl

second_false : (a b : Bool) → (a || b) ≡ false → b ≡ false
second_false true b e = cc
second_false false b e = e

-- neither of two tests holds where the two together do not
pub neither : (a b : Bool) → (a || b) ≡ false → (a ≡ false) × (b ≡ false)
neither a b e = (first_false a b e, second_false a b e)

-- a test that no member passes
pub All-none : {X : Type 0} (p : X → Bool) (xs : List X) → list_any p xs ≡ false → All (λ x. p x ≡ false) xs
All-none p [] e = All-nil (λ x. p x ≡ false)
All-none p (x ∷ xs) e =
    let both = neither (p x) (list_any p xs) e in All-cons (λ y. p y ≡ false) x xs both.0 (All-none p xs both.1)

nowhere_by : (first : Bool) (rest len : ℕ) → cond (not first) (1 + rest) 0 ≡ suc len → (first ≡ false) × (rest ≡ len)
nowhere_by true rest len h = absurd (omega arith)
nowhere_by false rest len h = (refl, omega arith)

nowhere : {X : Type 0} (p : X → Bool) (xs : List X) → position_or_len p xs ≡ length xs → All (λ x. p x ≡ false) xs
nowhere p [] h = All-nil (λ x. p x ≡ false)
nowhere p (x ∷ xs) h =
    let rest = nowhere_by (p x) (position_or_len p xs) (length xs) h in All-cons (λ y. p y ≡ false) x xs rest.0 (nowhere p xs rest.1)

bound_by : (first : Bool) (rest len : ℕ) → rest ≤ len → cond (not first) (1 + rest) 0 ≤ suc len
bound_by true rest len h = omega arith
bound_by false rest len h = omega arith

position_or_len-bound : {X : Type 0} (p : X → Bool) (xs : List X) → position_or_len p xs ≤ length xs
position_or_len-bound p [] = omega arith
position_or_len-bound p (x ∷ xs) = bound_by (p x) (position_or_len p xs) (length xs) (position_or_len-bound p xs)

not_found_by : (place len : ℕ) (t : Bool) → nat_lt place len ≡ t → place ≤ len → is_some (cond t (Some place) None) ≡ false → place ≡ len
not_found_by place len true e low h = cc
not_found_by place len false e low h = grind (arith, nat_tests)

-- what is found at no position
pub All-nowhere : {X : Type 0} (p : X → Bool) (xs : List X) → is_some (position p xs) ≡ false → All (λ x. p x ≡ false) xs
All-nowhere p xs h =
    nowhere p xs (not_found_by (position_or_len p xs) (length xs) (nat_lt (position_or_len p xs) (length xs)) refl (position_or_len-bound p xs) h)

none_by : {X : Type 0} (x : X) (xs : List X) (first : Bool) → length (cond first (x ∷ xs) xs) ≡ 0 → (first ≡ false) × (length xs ≡ 0)
none_by x xs true h = absurd (omega arith)
none_by x xs false h = (refl, h)

none_pass : {X : Type 0} (p : X → Bool) (xs : List X) → length (filter p xs) ≡ 0 → All (λ x. p x ≡ false) xs
none_pass p [] h = All-nil (λ x. p x ≡ false)
none_pass p (x ∷ xs) h =
    let rest = none_by x (filter p xs) (p x) h in All-cons (λ y. p y ≡ false) x xs rest.0 (none_pass p xs rest.1)

-- either the first passes and no other does, or at most one of the others does
few_by : {X : Type 0} (x : X) (xs : List X) (first : Bool) → length (cond first (x ∷ xs) xs) ≤ 1 → (first ≡ true → length xs ≡ 0) × (length xs ≤ 1)
few_by x xs true h = (λ _. omega arith, omega arith)
few_by x xs false h = (λ e. cc, h)

few_pass : {X : Type 0} (p : X → Bool) (xs : List X) → length (filter p xs) ≤ 1 → AllPairs (λ x y. p x ≡ true → p y ≡ false) xs
few_pass p [] h = λ i j d lt in'. absurd (omega arith)
few_pass p (x ∷ xs) h =
    let few = few_by x (filter p xs) (p x) h in
    AllPairs-cons (λ y z. p y ≡ true → p z ≡ false) x xs
    (λ k d low passes. none_pass p xs (few.0 passes) k d low)
    (few_pass p xs few.1)

-- where at most one member passes a test, no two do
pub AllPairs-from_count : {X : Type 0} (p : X → Bool) (xs : List X) → count_by p xs ≤ 1 → AllPairs (λ x y. p x ≡ true → p y ≡ false) xs
AllPairs-from_count p xs h = few_pass p xs (let same = length-filter p xs in omega arith)

-- a test of the numbers from one on, below a count
any-next : (p : ℕ → Bool) (low count : ℕ) → low < count
    → list_any p (range_with_len low (count - low)) ≡ (p low || list_any p (range_with_len (low + 1) (count - (low + 1))))
any-next p low count h =
    let more : count - low ≡ suc (count - (low + 1)) = omega arith in ap (λ n. list_any p (range_with_len low n)) more

-- the test passes at this number
pub any-found : (p : ℕ → Bool) (low count total : ℕ) → count ≡ total → low < count → p low ≡ true
    → list_any p (range_with_len low (count - low)) ≡ list_any p (range_with_len 0 count) → true ≡ list_any p (range_with_len 0 total)
any-found p low count total same h e all =
    sym (ap (λ t. t || list_any p (range_with_len (low + 1) (count - (low + 1)))) e) ∙ sym (any-next p low count h) ∙ all
    ∙ ap (λ n. list_any p (range_with_len 0 n)) same

-- the test does not pass at this number, and goes on behind it
pub any-later : (p : ℕ → Bool) (low count : ℕ) → low < count → p low ≡ false
    → list_any p (range_with_len low (count - low)) ≡ list_any p (range_with_len 0 count)
    → list_any p (range_with_len (low + 1) (count - (low + 1))) ≡ list_any p (range_with_len 0 count)
any-later p low count h e all =
    sym (any-next p low count h ∙ ap (λ t. t || list_any p (range_with_len (low + 1) (count - (low + 1)))) e) ∙ all
