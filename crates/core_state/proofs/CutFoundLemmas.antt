-- What is found in lists, which numbers are in a set that a list gives, and which number no list has.
use Rattle.core_state.proofs.Words.{◌<◌, ◌∙◌, ◌∷◌, ◌≡◌, ◌⊎◌, [], All, All-cons, All-contains, All-contains_itself, All-head, All-nil, All-tail, Any, ap, arith, bit_at-zero, Bool, cond, cons_option, Contains, false, filter, filter_map, find, get_or, get_or-range_with_len, Has, Has-with, inl, inr, IsSome, length, length-range_with_len, List, map, None, Option, passes, range_with_len, refl, set, Some, subst, suc, sym, true, with_number, zero, ℕ}
use Rattle.std.specs.Prelude.{fold}

-- what is found of an element is among what is found
pub found-in : {X Y : Type 0} (h : X → Option Y) (xs : List X) (y : Y) (k : ℕ) (d : X) → k < length xs → h (get_or xs k d) ≡ Some y
    → Contains (filter_map h xs) y
found-in h [] y k d low is = absurd (omega arith)
found-in {X = X} {Y = Y} h (x ∷ xs) y zero d low is = subst (λ o. Contains (cons_option o (filter_map h xs)) y) (sym is) (zero, omega arith, refl)
found-in {X = X} {Y = Y} h (x ∷ xs) y (suc k) d low is = by_found (h x) (found-in h xs y k d (omega arith) is)
  where
    by_found : (o : Option Y) → Contains (filter_map h xs) y → Contains (cons_option o (filter_map h xs)) y
    by_found None rest = rest
    by_found (Some z) rest = (suc rest.0, (let low_rest = rest.1 in omega arith), rest.2)

-- what holds of all that is found of the elements
pub all-found : {X Y : Type 0} (h : X → Option Y) (P : Y → Type 0) (xs : List X) → All (λ x. (y : Y) → h x ≡ Some y → P y) xs
    → All P (filter_map h xs)
all-found {X = X} {Y = Y} h P [] each = All-nil P
all-found {X = X} {Y = Y} h P (x ∷ xs) each =
    by_found (h x) refl (all-found h P xs (All-tail (λ z. (y : Y) → h z ≡ Some y → P y) x xs each))
  where
    by_found : (o : Option Y) → h x ≡ o → All P (filter_map h xs) → All P (cons_option o (filter_map h xs))
    by_found None is rest = rest
    by_found (Some y) is rest = All-cons P y (filter_map h xs) (All-head (λ z. (y : Y) → h z ≡ Some y → P y) x xs each y is) rest

-- what holds of the numbers below n holds of the range of them
pub all-below : (P : ℕ → Type 0) (n : ℕ) → ((k : ℕ) → k < n → P k) → All P (range_with_len 0 n)
all-below P n each = λ k d low.
    let inside : k < n = let long = length-range_with_len 0 n in omega arith in
    let at : get_or (range_with_len 0 n) k d ≡ k = get_or-range_with_len 0 n k d inside ∙ (omega arith) in
    subst P (sym at) (each k inside)

-- and what holds of the range holds of each
pub at-below : (P : ℕ → Type 0) (n : ℕ) → All P (range_with_len 0 n) → (k : ℕ) → k < n → P k
at-below P n all k low =
    let inside : k < length (range_with_len 0 n) = let long = length-range_with_len 0 n in omega arith in
    let at : get_or (range_with_len 0 n) k 0 ≡ k = get_or-range_with_len 0 n k 0 low ∙ (omega arith) in
    subst P at (all k 0 inside)

map-same : {X Y : Type 0} (f g : X → Y) (xs : List X) → All (λ x. f x ≡ g x) xs → map f xs ≡ map g xs
map-same f g [] all = refl
map-same f g (x ∷ xs) all =
    ap (λ y. y ∷ map f xs) (All-head (λ z. f z ≡ g z) x xs all)
    ∙ ap (λ rest. g x ∷ rest) (map-same f g xs (All-tail (λ z. f z ≡ g z) x xs all))

-- what is made of them is the same where it is of each
pub map-below : {Y : Type 0} (f g : ℕ → Y) (n : ℕ) → ((k : ℕ) → k < n → f k ≡ g k) → map f (range_with_len 0 n) ≡ map g (range_with_len 0 n)
map-below f g n each = map-same f g (range_with_len 0 n) (all-below (λ k. f k ≡ g k) n each)

-- what is found of a number below n is among what is found of the range of them
pub found-below : {Y : Type 0} (h : ℕ → Option Y) (n k : ℕ) (y : Y) → k < n → h k ≡ Some y → Contains (filter_map h (range_with_len 0 n)) y
found-below h n k y low is =
    let at : get_or (range_with_len 0 n) k 0 ≡ k = get_or-range_with_len 0 n k 0 low ∙ (omega arith) in
    found-in h (range_with_len 0 n) y k 0 (let long = length-range_with_len 0 n in omega arith) (ap h at ∙ is)

-- what holds of all that pass a test holds of each that passes it
pub from-filter : {X : Type 0} (P : X → Type 0) (p : X → Bool) (xs : List X) → All P (filter p xs) → All (λ x. p x ≡ true → P x) xs
from-filter P p [] all = All-nil (λ x. p x ≡ true → P x)
from-filter {X = X} P p (x ∷ xs) all = by_test (p x) refl all (from-filter P p xs)
  where
    by_test : (t : Bool) → p x ≡ t → All P (cond {A = List X} t (x ∷ filter p xs) (filter p xs))
        → (All P (filter p xs) → All (λ y. p y ≡ true → P y) xs) → All (λ y. p y ≡ true → P y) (x ∷ xs)
    by_test true is h rest =
        All-cons (λ y. p y ≡ true → P y) x xs (λ e. All-head P x (filter p xs) h) (rest (All-tail P x (filter p xs) h))
    by_test false is h rest =
        All-cons (λ y. p y ≡ true → P y) x xs (λ e. absurd (let both : true ≡ false = sym e ∙ is in cc)) (rest h)

-- an element that passes is kept
pub kept-there : {X : Type 0} (p : X → Bool) (xs : List X) (x : X) → Contains xs x → p x ≡ true → Contains (filter p xs) x
kept-there p xs x there = All-contains (λ y. p y ≡ true → Contains (filter p xs) y) xs x
    (from-filter (Contains (filter p xs)) p xs (All-contains_itself (filter p xs))) there

-- where nothing may be, nothing is
pub none-all : {X : Type 0} (xs : List X) → All (λ x. ⊥) xs → xs ≡ []
none-all [] all = refl
none-all (x ∷ xs) all = absurd (All-head (λ y. ⊥) x xs all)

-- where an element passes, one is found
pub find-there : {X : Type 0} (p : X → Bool) (xs : List X) (k : ℕ) (d : X) → k < length xs → p (get_or xs k d) ≡ true → IsSome (find p xs)
find-there p [] k d low passes = absurd (omega arith)
find-there {X = X} p (x ∷ xs) zero d low passes = subst (λ t. IsSome (cond {A = Option X} t (Some x) (find p xs))) (sym passes) refl
find-there {X = X} p (x ∷ xs) (suc k) d low passes = by_test (p x) (find-there p xs k d (omega arith) passes)
  where
    by_test : (t : Bool) → IsSome (find p xs) → IsSome (cond {A = Option X} t (Some x) (find p xs))
    by_test true rest = refl
    by_test false rest = rest

-- where none passes, none is found
pub none-found : {X : Type 0} (p : X → Bool) (xs : List X) → All (λ x. p x ≡ false) xs → find p xs ≡ None
none-found {X = X} p [] none = refl
none-found {X = X} p (x ∷ xs) none =
    ap (λ t. cond {A = Option X} t (Some x) (find p xs)) (All-head (λ z. p z ≡ false) x xs none)
    ∙ none-found p xs (All-tail (λ z. p z ≡ false) x xs none)

-- the numbers of some elements, put into a set
abbrev pub numbers_in : {X : Type 0} → (X → ℕ) → (set : ℕ) → List X → ℕ
numbers_in number_of set xs = fold (λ before x. with_number before (number_of x)) set xs

pub has-either : {X : Type 0} (number_of : X → ℕ) (set : ℕ) (xs : List X) (j : ℕ) → Has (numbers_in number_of set xs) j
    → Has set j ⊎ Any (λ x. number_of x ≡ j) xs
has-either number_of set [] j has = inl has
has-either {X = X} number_of set (x ∷ xs) j has = elim (has-either number_of (with_number set (number_of x)) xs j has) [
  | inl first ↦ elim ((Has-with set (number_of x) j).0 first) [
    | inl before ↦ inl before
    | inr same ↦ inr (zero, x, omega arith, refl, sym same)
  ]
  | inr later ↦ inr (suc later.0, later.1, (let low = later.2 in omega arith), later.3, later.4)
]

pub has-before : {X : Type 0} (number_of : X → ℕ) (set : ℕ) (xs : List X) (j : ℕ) → Has set j → Has (numbers_in number_of set xs) j
has-before number_of set [] j has = has
has-before number_of set (x ∷ xs) j has =
    has-before number_of (with_number set (number_of x)) xs j ((Has-with set (number_of x) j).1 (inl has))

pub has-at : {X : Type 0} (number_of : X → ℕ) (set : ℕ) (xs : List X) (k : ℕ) (d : X) → k < length xs
    → Has (numbers_in number_of set xs) (number_of (get_or xs k d))
has-at number_of set [] k d low = absurd (omega arith)
has-at number_of set (x ∷ xs) zero d low =
    has-before number_of (with_number set (number_of x)) xs (number_of x) ((Has-with set (number_of x) (number_of x)).1 (inr refl))
has-at number_of set (x ∷ xs) (suc k) d low = has-at number_of (with_number set (number_of x)) xs k d (omega arith)

-- a number is in the set of some elements where it is that of one
pub has-any : {X : Type 0} (number_of : X → ℕ) (xs : List X) (j : ℕ) → Has (numbers_in number_of 0 xs) j → Any (λ x. number_of x ≡ j) xs
has-any number_of xs j has = elim (has-either number_of 0 xs j has) [
  | inl none ↦ absurd (let both : 0 ≡ 1 = sym (bit_at-zero j) ∙ none in cc)
  | inr any ↦ any
]
