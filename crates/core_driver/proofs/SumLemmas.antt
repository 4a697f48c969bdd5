-- Sums over lists of which one member is another, or each is changed.
use Rattle.core_driver.proofs.Words.{◌+◌, ◌<◌, ◌∷◌, ◌≡◌, ◌≤◌, [], ap, AreRising, arith, Bool, cond, eqb, eqb-true, false, get_or, length, Life, List, map, None, Option, query_in, QueryLife, refl, Some, suc, sum_by, sum_by-cons, true, with_life, zero, ℕ}
use Rattle.star_values.proofs.RisingLemmas.{head_is_only, map-missing, tail_rises}

-- another life of the one query with this number changes the sum by what that query counts
pub sum-written : (weight : QueryLife → ℕ) (query : ℕ) (life : Life) (queries : List QueryLife) (entry : QueryLife) → AreRising queries
    → query_in queries query ≡ Some entry
    → sum_by weight (with_life query life queries) + weight entry ≡ sum_by weight queries + weight (record entry { life = life })
sum-written weight query life [] entry rising found = absurd (let both : None ≡ Some entry = found in cc)
sum-written weight query life (first ∷ queries) entry rising found =
    by_test (eqb first.query query) refl found (sum-written weight query life queries entry (tail_rises (λ (entry : QueryLife). entry.query) first queries rising))
  where
    whole : sum_by weight (first ∷ queries) ≡ weight first + sum_by weight queries
    whole = sum_by-cons weight first queries

    by_test : (t : Bool) → eqb first.query query ≡ t → cond {A = Option QueryLife} t (Some first) (query_in queries query) ≡ Some entry
        → (query_in queries query ≡ Some entry
        → sum_by weight (with_life query life queries) + weight entry ≡ sum_by weight queries + weight (record entry { life = life }))
        → sum_by weight (cond {A = QueryLife} t (record first { life = life }) first ∷ with_life query life queries) + weight entry
        ≡ sum_by weight (first ∷ queries) + weight (record entry { life = life })
    by_test true at is rest =
        let same : first ≡ entry = cc in
        let others : with_life query life queries ≡ queries =
        map-missing (λ (entry : QueryLife). entry.query) queries query (λ e. record e { life = life }) (head_is_only (λ (entry : QueryLife). entry.query) first queries query rising (eqb-true first.query query at)) in
        let written = sum_by-cons weight (record first { life = life }) (with_life query life queries) in
        let stay = ap (sum_by weight) others in
        let before = ap weight same in
        let now : weight (record first { life = life }) ≡ weight (record entry { life = life }) = ap (λ (e : QueryLife). weight (record e { life = life })) same in
        let all : sum_by weight (record first { life = life } ∷ with_life query life queries) + weight entry
        ≡ sum_by weight (first ∷ queries) + weight (record entry { life = life }) = omega (arith, whole) in
        all
    by_test false at is rest =
        let more = rest is in
        let written = sum_by-cons weight first (with_life query life queries) in
        let all : sum_by weight (first ∷ with_life query life queries) + weight entry
        ≡ sum_by weight (first ∷ queries) + weight (record entry { life = life }) = omega (arith, whole) in
        all

-- a change that makes no member count more makes the sum no more
pub sum-changed : {X : Type 0} (weight : X → ℕ) (change : X → X) (xs : List X) → ((x : X) → weight (change x) ≤ weight x)
    → sum_by weight (map change xs) ≤ sum_by weight xs
sum-changed weight change [] less = omega arith
sum-changed weight change (x ∷ xs) less =
    let rest = sum-changed weight change xs less in
    let here = less x in
    omega (arith, sum_by-cons weight x xs, sum_by-cons weight (change x) (map change xs))

-- and less where it makes one member count less
pub sum-less : {X : Type 0} (weight : X → ℕ) (change : X → X) (xs : List X) (place : ℕ) (d : X) → ((x : X) → weight (change x) ≤ weight x)
    → place < length xs → weight (change (get_or xs place d)) < weight (get_or xs place d)
    → sum_by weight (map change xs) < sum_by weight xs
sum-less weight change [] place d less low here = absurd (omega arith)
sum-less weight change (x ∷ xs) zero d less low here =
    let rest = sum-changed weight change xs less in
    omega (arith, sum_by-cons weight x xs, sum_by-cons weight (change x) (map change xs))
sum-less weight change (x ∷ xs) (suc place) d less low here =
    let rest = sum-less weight change xs place d less (omega arith) here in
    let first = less x in
    omega (arith, sum_by-cons weight x xs, sum_by-cons weight (change x) (map change xs))

-- a change that each member counts the same with leaves the sum
pub sum-same : {X : Type 0} (weight : X → ℕ) (change : X → X) (xs : List X) → ((x : X) → weight (change x) ≡ weight x)
    → sum_by weight (map change xs) ≡ sum_by weight xs
sum-same weight change [] same = refl
sum-same weight change (x ∷ xs) same =
    let rest = sum-same weight change xs same in
    let here = same x in
    omega (arith, sum_by-cons weight x xs, sum_by-cons weight (change x) (map change xs))
