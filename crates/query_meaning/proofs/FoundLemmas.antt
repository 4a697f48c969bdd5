-- What is found in a list, where and how often.
use Rattle.std.proofs.Common.{◌≡◌, ℕ, zero, suc, ◌+◌, ◌<◌, Bool, true, false, cond, not, ◌&&◌, nat_lt, List, [], ◌∷◌, length, get_or, Option, Some, None, slice_get, refl, ap, ◌∙◌, arith}
use Rattle.std.specs.List.{filter, find, position, position_or_len}
use Rattle.std.proofs.lemmas.Bool.Decides.{nat_tests}
use Rattle.std.proofs.lemmas.List.Folds.{find_at}
use Rattle.std.proofs.lemmas.List.Quantifiers.{position-Some}

pub first_true : (a b : Bool) → (a && b) ≡ true → a ≡ true
first_true true b e = refl
first_true false b e = cc

pub second_true : (a b : Bool) → (a && b) ≡ true → b ≡ true
second_true true b e = e
second_true false b e = cc

pub both_true : (a b : Bool) → a ≡ true → b ≡ true → (a && b) ≡ true
both_true true b first second = second
both_true false b first second = cc

pub slice_get_at : {X : Type 0} (xs : List X) (place : ℕ) (d : X) → place < length xs → slice_get xs place ≡ Some (get_or xs place d)
slice_get_at [] place d low = absurd (omega arith)
slice_get_at (x ∷ xs) zero d low = refl
slice_get_at (x ∷ xs) (suc place) d low = slice_get_at xs place d (omega arith)

place_by : (is : Bool) (place found : ℕ) → cond {A = Option ℕ} is (Some found) None ≡ Some place → found ≡ place
place_by true place found e = cc
place_by false place found e = cc

-- what stands at the position is the first that passes
pub find_position : {X : Type 0} (p : X → Bool) (xs : List X) (place : ℕ) (d : X) → position p xs ≡ Some place
    → find p xs ≡ Some (get_or xs place d)
find_position p xs place d e =
    let same : position_or_len p xs ≡ place = place_by (nat_lt (position_or_len p xs) (length xs)) place (position_or_len p xs) e in
    find_at p xs ∙ ap (slice_get xs) same ∙ slice_get_at xs place d (position-Some p xs place d e).0

some_by : {X : Type 0} (x found : X) → Some x ≡ Some found → x ≡ found
some_by x found e = cc

narrower_by : {X : Type 0} (wide narrow : Bool) (x found : X) (rest narrow_rest : Option X) → (narrow ≡ true → wide ≡ true)
    → cond wide (Some x) rest ≡ Some found → (x ≡ found → narrow ≡ true) → (rest ≡ Some found → narrow_rest ≡ Some found)
    → cond narrow (Some x) narrow_rest ≡ Some found
narrower_by true true x found rest narrow_rest implies e passes more = e
narrower_by true false x found rest narrow_rest implies e passes more = let is : false ≡ true = passes (some_by x found e) in cc
narrower_by false true x found rest narrow_rest implies e passes more = let is : false ≡ true = implies refl in cc
narrower_by false false x found rest narrow_rest implies e passes more = more e

-- the first that passes a test is the first to pass a narrower one, where it passes that, too
pub find_narrower : {X : Type 0} (p q : X → Bool) (xs : List X) (found : X) → ((x : X) → q x ≡ true → p x ≡ true)
    → find p xs ≡ Some found → q found ≡ true → find q xs ≡ Some found
find_narrower p q [] found implies e passes = cc
find_narrower p q (x ∷ xs) found implies e passes =
    narrower_by (p x) (q x) x found (find p xs) (find q xs) (implies x) e (λ same. ap q same ∙ passes)
    (λ rest. find_narrower p q xs found implies rest passes)

early_by : (first : Bool) (rest len : ℕ) → rest < len → cond (not first) (1 + rest) 0 < suc len
early_by true rest len low = omega arith
early_by false rest len low = omega arith

here_by : (first : Bool) (rest len : ℕ) → first ≡ true → cond (not first) (1 + rest) 0 < suc len
here_by true rest len is = omega arith
here_by false rest len is = cc

-- where a member passes, one is found
early : {X : Type 0} (p : X → Bool) (xs : List X) (place : ℕ) (d : X) → place < length xs → p (get_or xs place d) ≡ true
    → position_or_len p xs < length xs
early p [] place d low is = absurd (omega arith)
early p (x ∷ xs) zero d low is = here_by (p x) (position_or_len p xs) (length xs) is
early p (x ∷ xs) (suc place) d low is = early_by (p x) (position_or_len p xs) (length xs) (early p xs place d (omega arith) is)

pub position_there : {X : Type 0} (p : X → Bool) (xs : List X) (place : ℕ) (d : X) → place < length xs → p (get_or xs place d) ≡ true
    → position p xs ≡ Some (position_or_len p xs)
position_there p xs place d low is =
    let there = early p xs place d low is in
    let test : nat_lt (position_or_len p xs) (length xs) ≡ true = grind (arith, nat_tests) in
    rw test refl

none_by : {X : Type 0} (is : Bool) (x : X) (rest : List X) → ¬ (is ≡ true) → rest ≡ [] → cond is (x ∷ rest) rest ≡ []
none_by true x rest fails none = absurd (fails refl)
none_by false x rest fails none = none

none_pass : {X : Type 0} (p : X → Bool) (xs : List X) → ((place : ℕ) (y : X) → slice_get xs place ≡ Some y → ¬ (p y ≡ true)) → filter p xs ≡ []
none_pass p [] none = refl
none_pass p (x ∷ xs) none = none_by (p x) x (filter p xs) (none 0 x refl) (none_pass p xs (λ place y. none (suc place) y))

one_by : {X : Type 0} (is : Bool) (x : X) (rest : List X) → is ≡ true → rest ≡ [] → length (cond is (x ∷ rest) rest) ≡ 1
one_by true x rest passes none = rw none refl
one_by false x rest passes none = cc

later_by : {X : Type 0} (is : Bool) (x : X) (rest : List X) → ¬ (is ≡ true) → length rest ≡ 1 → length (cond is (x ∷ rest) rest) ≡ 1
later_by true x rest fails one = absurd (fails refl)
later_by false x rest fails one = one

-- one passes where one at a place does and no other
pub one_passes : {X : Type 0} (p : X → Bool) (xs : List X) (place : ℕ) (found : X) → slice_get xs place ≡ Some found → p found ≡ true
    → ((other : ℕ) (y : X) → slice_get xs other ≡ Some y → p y ≡ true → other ≡ place)
    → length (filter p xs) ≡ 1
one_passes p [] place found there passes only = cc
one_passes p (x ∷ xs) zero found there passes only =
    one_by (p x) x (filter p xs) (ap p (some_by x found there) ∙ passes)
    (none_pass p xs (λ other y at is. let same : suc other ≡ 0 = only (suc other) y at is in absurd (omega arith)))
one_passes p (x ∷ xs) (suc place) found there passes only =
    later_by (p x) x (filter p xs) (λ is. let same : 0 ≡ suc place = only 0 x refl is in absurd (omega arith))
    (one_passes p xs place found there passes (λ other y at is. let same : suc other ≡ suc place = only (suc other) y at is in omega arith))
