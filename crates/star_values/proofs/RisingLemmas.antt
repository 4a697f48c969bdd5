-- Lists of members whose numbers rise: where the one of a number stands, what is found of it, and what is written there.
use Rattle.std.proofs.Common.{◌≡◌, ℕ, zero, suc, ◌<◌, ◌≤◌, Bool, true, false, cond, eqb, List, [], ◌∷◌, length, get_or, set, map, Some, None, refl, ap, sym, ◌∙◌, arith, ◌⊎◌, inl, inr, eq-eqb}
use Rattle.std.specs.List.{All, AllPairs, find, position, position_or_len, refill}
use Rattle.std.specs.List.Sorted.{IsNonDecreasingBy, IsPartitionPoint}
use Rattle.std.proofs.lemmas.Bool.{cases_lt, eqb-false, ne_eqb}
use Rattle.std.proofs.lemmas.List.{length-set}
use Rattle.std.proofs.lemmas.List.Elements.{All-cons, All-nil}
use Rattle.std.proofs.lemmas.List.Sums.{position_or_len_is}
use Rattle.star_values.proofs.PlaceLemmas.{past-from_none, position-past, position-within, refill-all}

-- the numbers of the members rise
abbrev pub RisesBy : {X : Type 0} → (number_of : X → ℕ) → List X → Type 0
RisesBy number_of xs = AllPairs (λ x later. number_of x < number_of later) xs

-- no member has the number
abbrev pub IsMissing : {X : Type 0} → (number_of : X → ℕ) → (number : ℕ) → List X → Type 0
IsMissing number_of number xs = All (λ x. number_of x ≡ number → ⊥) xs

-- behind the first member the numbers rise, too
pub tail_rises : {X : Type 0} (number_of : X → ℕ) (x : X) (xs : List X) → RisesBy number_of (x ∷ xs) → RisesBy number_of xs
tail_rises number_of x xs rising = λ j k d low within. rising (suc j) (suc k) d (omega arith) (omega arith)

-- behind the first member each number is greater than its own
pub above_head : {X : Type 0} (number_of : X → ℕ) (x : X) (xs : List X) → RisesBy number_of (x ∷ xs)
    → (k : ℕ) (d : X) → k < length xs → number_of x < number_of (get_or xs k d)
above_head number_of x xs rising k d within = rising zero (suc k) d (omega arith) (omega arith)

-- behind the first member its number is missing
pub head_is_only : {X : Type 0} (number_of : X → ℕ) (x : X) (xs : List X) (number : ℕ) → RisesBy number_of (x ∷ xs)
    → number_of x ≡ number → IsMissing number_of number xs
head_is_only number_of x xs number rising same = λ k d within equal.
    let above = above_head number_of x xs rising k d within in omega arith

-- numbers that rise do not fall
pub rising_non_decreasing : {X : Type 0} (number_of : X → ℕ) (xs : List X) → RisesBy number_of xs → IsNonDecreasingBy number_of xs
rising_non_decreasing number_of xs rising i j d low within = by_cases (cases_lt i j)
  where
    by_cases : (i < j) ⊎ (j ≤ i) → number_of (get_or xs i d) ≤ number_of (get_or xs j d)
    by_cases (inl below) = let less = rising i j d below within in omega arith
    by_cases (inr above) =
        let same : i ≡ j = omega arith in
        let equal = ap (λ k. number_of (get_or xs k d)) same in omega arith

-- a number that is not at the first place from which on numbers are not below it is missing
pub missing_past : {X : Type 0} (number_of : X → ℕ) (xs : List X) (place number : ℕ) → RisesBy number_of xs
    → IsPartitionPoint (λ x. number_of x < number) (λ x. number ≤ number_of x) xs place
    → ((d : X) → place < length xs → number_of (get_or xs place d) ≡ number → ⊥) → IsMissing number_of number xs
missing_past {X} number_of xs place number rising halves other = λ k d within equal. by_cases k d within equal (cases_lt k place)
  where
    by_cases : (k : ℕ) (d : X) → k < length xs → number_of (get_or xs k d) ≡ number → (k < place) ⊎ (place ≤ k) → ⊥
    by_cases k d within equal (inl before) = let less = halves.0 k d (omega arith) before in omega arith
    by_cases k d within equal (inr behind) =
        let inside : place < length xs = omega arith in
        let least = halves.1 place d (omega arith) inside in
        let less = rising_non_decreasing number_of xs rising place k d behind within in
        other d inside (omega arith)

-- the first member whose number is not below is at the place of the number, if it has it
pub position-found : {X : Type 0} (number_of : X → ℕ) (xs : List X) (place number : ℕ) (d : X)
    → IsPartitionPoint (λ x. number_of x < number) (λ x. number ≤ number_of x) xs place
    → place < length xs → number_of (get_or xs place d) ≡ number → position (λ x. eqb (number_of x) number) xs ≡ Some place
position-found number_of xs place number d halves within same =
    position-within (λ x. eqb (number_of x) number) xs place
    (position_or_len_is (λ x. eqb (number_of x) number) xs place d (omega arith)
    (λ k below. ne_eqb (number_of (get_or xs k d)) number (λ equal. let less = halves.0 k d (omega arith) below in omega arith))
    (λ inside. eq-eqb (number_of (get_or xs place d)) number same)) within

-- the tests of members none of which has the number
missing_fails : {X : Type 0} (number_of : X → ℕ) (xs : List X) (number : ℕ) → IsMissing number_of number xs
    → length xs ≤ position_or_len (λ x. eqb (number_of x) number) xs
missing_fails number_of [] number missing = omega arith
missing_fails number_of (x ∷ xs) number missing =
    let rest = missing_fails number_of xs number (λ k d within. missing (suc k) d (omega arith)) in
    rw (ne_eqb (number_of x) number (missing zero x (omega arith))) (omega arith)

-- a number that is missing has no place
pub position-missing : {X : Type 0} (number_of : X → ℕ) (xs : List X) (number : ℕ) → IsMissing number_of number xs
    → position (λ x. eqb (number_of x) number) xs ≡ None
position-missing number_of xs number missing =
    position-past (λ x. eqb (number_of x) number) xs (missing_fails number_of xs number missing)

-- and a number that has no place is missing
pub missing-nowhere : {X : Type 0} (number_of : X → ℕ) (xs : List X) (number : ℕ) → position (λ x. eqb (number_of x) number) xs ≡ None
    → IsMissing number_of number xs
missing-nowhere {X} number_of xs number none = past xs (past-from_none (λ x. eqb (number_of x) number) xs none)
  where
    past : (xs : List X) → length xs ≤ position_or_len (λ x. eqb (number_of x) number) xs → IsMissing number_of number xs
    past [] beyond = All-nil (λ x. number_of x ≡ number → ⊥)
    past (x ∷ xs) beyond = by_test (eqb (number_of x) number) refl (past xs)
      where
        by_test : (t : Bool) → eqb (number_of x) number ≡ t
            → (length xs ≤ position_or_len (λ x. eqb (number_of x) number) xs → IsMissing number_of number xs)
            → IsMissing number_of number (x ∷ xs)
        by_test true same rest = let first = rw same at beyond in absurd (omega arith)
        by_test false other rest =
            All-cons (λ x. number_of x ≡ number → ⊥) x xs (eqb-false (number_of x) number other)
            (let more = rw other at beyond in rest (omega arith))

-- the member at a place with this number is the one that is found
pub find-at : {X : Type 0} (number_of : X → ℕ) (xs : List X) (place number : ℕ) (d : X) → RisesBy number_of xs → place < length xs
    → number_of (get_or xs place d) ≡ number → find (λ x. eqb (number_of x) number) xs ≡ Some (get_or xs place d)
find-at number_of [] place number d rising within same = absurd (omega arith)
find-at number_of (x ∷ xs) zero number d rising within same = rw (eq-eqb (number_of x) number same) refl
find-at number_of (x ∷ xs) (suc place) number d rising within same =
    let inside : place < length xs = omega arith in
    let above = above_head number_of x xs rising place d inside in
    rw (ne_eqb (number_of x) number (λ equal. omega arith))
    (find-at number_of xs place number d (tail_rises number_of x xs rising) inside same)

-- where no member has the number, none is found
pub find-missing : {X : Type 0} (number_of : X → ℕ) (xs : List X) (number : ℕ) → IsMissing number_of number xs
    → find (λ x. eqb (number_of x) number) xs ≡ None
find-missing number_of [] number missing = refl
find-missing number_of (x ∷ xs) number missing =
    rw (ne_eqb (number_of x) number (missing zero x (omega arith)))
    (find-missing number_of xs number (λ k d within. missing (suc k) d (omega arith)))

-- a member that is changed if it has the number
abbrev pub changed_if : {X : Type 0} → (number_of : X → ℕ) → (number : ℕ) → (X → X) → X → X
changed_if {X} number_of number change x = cond {A = X} (eqb (number_of x) number) (change x) x

-- where no member has the number, all stay
pub map-missing : {X : Type 0} (number_of : X → ℕ) (xs : List X) (number : ℕ) (change : X → X) → IsMissing number_of number xs
    → map (changed_if number_of number change) xs ≡ xs
map-missing number_of [] number change missing = refl
map-missing number_of (x ∷ xs) number change missing =
    rw (ne_eqb (number_of x) number (missing zero x (omega arith)))
    (ap (λ rest. x ∷ rest) (map-missing number_of xs number change (λ k d within. missing (suc k) d (omega arith))))

-- what is written at the place of the member with this number changes that one alone
pub map-written : {X : Type 0} (number_of : X → ℕ) (xs : List X) (place number : ℕ) (change : X → X) (d : X) → RisesBy number_of xs
    → place < length xs → number_of (get_or xs place d) ≡ number
    → set xs place (change (get_or xs place d)) ≡ map (changed_if number_of number change) xs
map-written number_of [] place number change d rising within same = absurd (omega arith)
map-written number_of (x ∷ xs) zero number change d rising within same =
    rw (eq-eqb (number_of x) number same)
    (ap (λ rest. change x ∷ rest) (sym (map-missing number_of xs number change (head_is_only number_of x xs number rising same))))
map-written number_of (x ∷ xs) (suc place) number change d rising within same =
    let inside : place < length xs = omega arith in
    let above = above_head number_of x xs rising place d inside in
    rw (ne_eqb (number_of x) number (λ equal. omega arith))
    (ap (λ rest. x ∷ rest) (map-written number_of xs place number change d (tail_rises number_of x xs rising) inside same))

-- a list that lent its members ends with what was written at the place of the number
pub map-lent : {X : Type 0} (number_of : X → ℕ) (xs members : List X) (place number : ℕ) (change : X → X) (d : X) → members ≡ xs
    → RisesBy number_of xs → place < length xs → number_of (get_or xs place d) ≡ number
    → refill (length xs) xs (set members place (change (get_or members place d))) ≡ map (changed_if number_of number change) xs
map-lent number_of xs members place number change d lent rising within same =
    ap (λ list. refill (length xs) xs (set list place (change (get_or list place d)))) lent
    ∙ refill-all xs (set xs place (change (get_or xs place d))) (length-set xs place _)
    ∙ map-written number_of xs place number change d rising within same
