-- The number of a batch that is cut, and where the keys of its rows stand.
use Rattle.core_state.proofs.Words.{◌*◌, ◌+◌, ◌<◌, ◌∙◌, ◌∷◌, ◌≡◌, ◌≢◌, ◌≤◌, [], All, Any-from_list_any, ap, arith, Bool, cond, eq-eqb, eqb, eqb-true, false, find, flat_map, get_or, last_number, length, length-take-le, List, list_any, list_any_at, ltb, ltb-true, min, next_number, None, not, Option, option_map_or, range_with_len, refl, Some, sym, take, true, ℕ}
use Rattle.std.proofs.lemmas.Bool.{lt-ltb, not-false, not-true}
use Rattle.std.proofs.lemmas.List.{length-append}
use Rattle.std.proofs.lemmas.List.Concat.{get_or-flat_map}
use Rattle.std.proofs.lemmas.Map.Steps.{le-length_from_below}
use Rattle.core_state.specs.Numbered.{least_unused}
use Rattle.core_state.proofs.AcceptedLemmas.{find-none}
use Rattle.core_state.proofs.CutFoundLemmas.{at-below}
use Rattle.core_state.proofs.FoundLemmas.{find-passes}

-- a number that is among some is one that they find
any-turned : (number : ℕ) (used : List ℕ) → list_any (λ other. eqb other number) used ≡ true → list_any (eqb number) used ≡ true
any-turned number used is =
    let any = Any-from_list_any (λ other. eqb other number) used is in
    let same : any.1 ≡ number = eqb-true any.1 number any.4 in
    list_any_at (eqb number) used any.0 any.1 any.2 (ap (eqb number) any.3 ∙ eq-eqb number any.1 (sym same))

-- the least number that is not used is not used: of one number more than are used one is none of them
least-free : (used : List ℕ) → list_any (λ other. eqb other (least_unused used)) used ≡ false
least-free used = by_found (find is_free all) refl
  where
    is_free : ℕ → Bool
    is_free number = not (list_any (λ other. eqb other number) used)

    all : List ℕ
    all = range_with_len 0 (length used + 1)

    by_found : (o : Option ℕ) → find is_free all ≡ o → list_any (λ other. eqb other (option_map_or (λ number. number) o 0)) used ≡ false
    by_found (Some number) is = not-true (list_any (λ other. eqb other number) used) (find-passes is_free all number is)
    by_found None is =
        let none = find-none is_free all is in
        let many : length used + 1 ≤ length used = le-length_from_below used (length used + 1) (λ number low.
        let taken : is_free number ≡ false = at-below (λ n. is_free n ≡ false) (length used + 1) none number low in
        any-turned number used (not-false (list_any (λ other. eqb other number) used) taken)) in
        absurd (omega arith)

least-apart : (used : List ℕ) → All (λ other. other ≢ least_unused used) used
least-apart used = λ k d low same.
    let there = list_any_at (λ other. eqb other (least_unused used)) used k d low (eq-eqb (get_or used k d) (least_unused used) same) in
    let both : true ≡ false = sym there ∙ least-free used in cc

-- the next number is none that is used
pub next-apart : (last : ℕ) (used : List ℕ) → (last < last_number → All (λ other. other ≤ last) used)
    → All (λ other. other ≢ next_number last used) used
next-apart last used given = by_test (ltb last last_number) refl
  where
    by_test : (t : Bool) → ltb last last_number ≡ t → All (λ other. other ≢ cond {A = ℕ} t (last + 1) (least_unused used)) used
    by_test true is = λ k d low same. let under = given (ltb-true last last_number is) k d low in absurd (omega arith)
    by_test false is = least-apart used

-- until the numbers have run out, the next one is above the last
pub still-given : (last most : ℕ) → min (last + 1) most < most → (last < most) × (min (last + 1) most ≡ last + 1)
still-given last most more = (omega arith, omega arith)

pub next-given : (last : ℕ) (used : List ℕ) → last < last_number → next_number last used ≡ last + 1
next-given last used more = ap (λ t. cond {A = ℕ} t (last + 1) (least_unused used)) (lt-ltb last last_number more)

-- lists of eight numbers each, one behind the other
pub length-of_rows : {X : Type 0} (keys_of : X → List ℕ) → ((x : X) → length (keys_of x) ≡ 8) → (xs : List X)
    → length (flat_map keys_of xs) ≡ length xs * 8
length-of_rows keys_of each [] = refl
length-of_rows keys_of each (x ∷ xs) =
    let here = each x in
    let rest = length-of_rows keys_of each xs in
    let both = length-append (keys_of x) (flat_map keys_of xs) in
    omega arith

pub get_or-of_rows : {X : Type 0} (keys_of : X → List ℕ) → ((x : X) → length (keys_of x) ≡ 8) → (xs : List X) (row place : ℕ) (d : X) (e : ℕ)
    → row < length xs → place < 8 → get_or (flat_map keys_of xs) (row * 8 + place) e ≡ get_or (keys_of (get_or xs row d)) place e
get_or-of_rows keys_of each xs row place d e low inside =
    let here = each (get_or xs row d) in
    let front = length-of_rows keys_of each (take row xs) in
    let many = length-take-le row xs (omega arith) in
    let at : row * 8 + place ≡ length (flat_map keys_of (take row xs)) + place = omega arith in
    ap (λ n. get_or (flat_map keys_of xs) n e) at ∙ get_or-flat_map keys_of xs row place d e low (omega arith)
