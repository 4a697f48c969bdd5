-- The first place at which a test passes, what is found there, and what a list ends as that was lent to be written there.
use Rattle.std.proofs.Common.{◌≡◌, ℕ, ◌<◌, ◌≤◌, ◌||◌, Bool, true, false, cond, eqb, List, [], ◌∷◌, length, map, slice_get, Option, Some, None, refl, ap, subst, sym, ◌∙◌, arith, ◌⊎◌, inl, inr}
use Rattle.std.specs.List.{All, find, list_any, position, position_or_len, refill}
use Rattle.std.specs.Option.{option_and_then}
use Rattle.std.specs.Prelude.{is_some}
use Rattle.std.proofs.lemmas.Bool.{cases_lt, lt-ltb, le-ltb}
use Rattle.std.proofs.lemmas.List.Elements.{All-cons, All-head, All-nil, All-tail}
use Rattle.std.proofs.lemmas.List.Folds.{find_at}
use Rattle.std.proofs.lemmas.Option.{none-some, slice_get_past}

-- a first place within the list is the place
pub position-within : {X : Type 0} (p : X → Bool) (xs : List X) (i : ℕ) → position_or_len p xs ≡ i → i < length xs
    → position p xs ≡ Some i
position-within p xs i same within =
    let inside : position_or_len p xs < length xs = omega arith in
    rw (lt-ltb (position_or_len p xs) (length xs) inside) (ap Some same)

-- a first place past the list is none
pub position-past : {X : Type 0} (p : X → Bool) (xs : List X) → length xs ≤ position_or_len p xs → position p xs ≡ None
position-past p xs past = rw (le-ltb (position_or_len p xs) (length xs) past) refl

-- where there is no place, the first one is past the list
pub past-from_none : {X : Type 0} (p : X → Bool) (xs : List X) → position p xs ≡ None → length xs ≤ position_or_len p xs
past-from_none p xs none = by_cases (cases_lt (position_or_len p xs) (length xs))
  where
    by_cases : (position_or_len p xs < length xs) ⊎ (length xs ≤ position_or_len p xs) → length xs ≤ position_or_len p xs
    by_cases (inl within) = absurd (none-some _ (sym none ∙ position-within p xs (position_or_len p xs) refl within))
    by_cases (inr past) = past

-- the member at the first place is the first that passes
pub get-position : {X : Type 0} (p : X → Bool) (xs : List X) → option_and_then (slice_get xs) (position p xs) ≡ find p xs
get-position p xs = by_cases (cases_lt (position_or_len p xs) (length xs))
  where
    by_cases : (position_or_len p xs < length xs) ⊎ (length xs ≤ position_or_len p xs)
        → option_and_then (slice_get xs) (position p xs) ≡ find p xs
    by_cases (inl within) =
        ap (option_and_then (slice_get xs)) (position-within p xs (position_or_len p xs) refl within) ∙ sym (find_at p xs)
    by_cases (inr past) =
        ap (option_and_then (slice_get xs)) (position-past p xs past)
        ∙ sym (slice_get_past xs (position_or_len p xs) past) ∙ sym (find_at p xs)

-- what is found passes
pub find-passes : {X : Type 0} (p : X → Bool) (xs : List X) (found : X) → find p xs ≡ Some found → p found ≡ true
find-passes p [] found is = cc
find-passes {X} p (x ∷ xs) found is = by_test (p x) refl (find-passes p xs found) is
  where
    by_test : (t : Bool) → p x ≡ t → (find p xs ≡ Some found → p found ≡ true)
        → cond {A = Option X} t (Some x) (find p xs) ≡ Some found → p found ≡ true
    by_test true passes rest is = let same : x ≡ found = cc in ap p (sym same) ∙ passes
    by_test false fails rest is = rest is

-- as many members as the list has replace all of them
pub refill-all : {X : Type 0} (old members : List X) → length members ≡ length old → refill (length old) old members ≡ members
refill-all [] [] same = refl
refill-all [] (member ∷ members) same = absurd (omega arith)
refill-all (entry ∷ old) [] same = absurd (omega arith)
refill-all (entry ∷ old) (member ∷ members) same = ap (λ rest. member ∷ rest) (refill-all old members (omega arith))

-- what is found is one of the list
pub find-holds : {X : Type 0} (P : X → Type 0) (p : X → Bool) (xs : List X) (x : X) → find p xs ≡ Some x → All P xs → P x
find-holds {X = X} P p [] x is all = absurd (none-some x is)
find-holds {X = X} P p (y ∷ xs) x is all = by_test (p y) is (find-holds P p xs x)
  where
    by_test : (t : Bool) → cond {A = Option X} t (Some y) (find p xs) ≡ Some x → (find p xs ≡ Some x → All P xs → P x) → P x
    by_test true e rest = let same : y ≡ x = cc in subst P same (All-head P y xs all)
    by_test false e rest = rest e (All-tail P y xs all)

-- where none is found, none passes
pub find-none : {X : Type 0} (p : X → Bool) (xs : List X) → find p xs ≡ None → All (λ x. p x ≡ false) xs
find-none {X = X} p [] is = All-nil (λ x. p x ≡ false)
find-none {X = X} p (y ∷ xs) is = by_test (p y) refl is (find-none p xs)
  where
    by_test : (t : Bool) → p y ≡ t → cond {A = Option X} t (Some y) (find p xs) ≡ None → (find p xs ≡ None → All (λ x. p x ≡ false) xs) → All (λ x. p x ≡ false) (y ∷ xs)
    by_test true q e rest = absurd (none-some y (sym e))
    by_test false q e rest = All-cons (λ x. p x ≡ false) y xs q (rest e)

-- whether a number is found does not hang on what has it
pub number-found : {X : Type 0} (number_of : X → ℕ) (xs : List X) (number : ℕ)
    → is_some (find (λ x. eqb (number_of x) number) xs) ≡ list_any (λ n. eqb n number) (map number_of xs)
number-found {X = X} number_of [] number = refl
number-found {X = X} number_of (x ∷ xs) number = by_test (eqb (number_of x) number) (number-found number_of xs number)
  where
    by_test : (t : Bool) → is_some (find (λ x. eqb (number_of x) number) xs) ≡ list_any (λ n. eqb n number) (map number_of xs)
        → is_some (cond {A = Option X} t (Some x) (find (λ x. eqb (number_of x) number) xs))
        ≡ (t || list_any (λ n. eqb n number) (map number_of xs))
    by_test true rest = refl
    by_test false rest = rest
