-- How many dimensions are in a set that gets one more, or loses one.
use Rattle.core_driver.proofs.Words.{◌+◌, ◌<◌, ◌∙◌, ◌≡◌, ◌≢◌, ◌≤◌, ap, arith, bit_at, cases_eq, cond, count_by, eq-eqb, eqb, Has, refl, suc, sum_by-cons, zero, ℕ, ⊎_elim}
use Rattle.std.proofs.Common.{◌^◌}
use Rattle.std.specs.List.{range_with_len}
use Rattle.std.proofs.lemmas.Bool.{ne_eqb}
use Rattle.std.proofs.lemmas.List.FromFn.{length-range_with_len}
use Rattle.std.proofs.lemmas.List.Sums.{count_by-le-length}
use Rattle.std.proofs.lemmas.Nat.Bits.{bit_at-lt, bit_at-pow_other, bit_at-pow_same, bit_at_or}
use Rattle.bit_words.specs.Sets.{with_number, without}
use Rattle.bit_words.proofs.SetLemmas.{bit_at-without}
use Rattle.core_driver.specs.Work.{size_of}

-- what a dimension counts is its bit
weight-bit : (set dimension : ℕ) → cond {A = ℕ} (eqb (bit_at set dimension) 1) 1 0 ≡ bit_at set dimension
weight-bit set dimension = ⊎_elim
    (λ is. ap (λ t. cond {A = ℕ} t 1 0) (eq-eqb (bit_at set dimension) 1 is) ∙ (omega arith))
    (λ other. ap (λ t. cond {A = ℕ} t 1 0) (ne_eqb (bit_at set dimension) 1 other) ∙ (let low = bit_at-lt set dimension in omega arith))
    (cases_eq (bit_at set dimension) 1)

-- how many of some dimensions, one behind the other, are in a set
abbrev size_from : (set first count : ℕ) → ℕ
size_from set first count = count_by (λ dimension. eqb (bit_at set dimension) 1) (range_with_len first count)

-- the first of them, and the others
size-more : (set first count : ℕ) → size_from set first (suc count) ≡ bit_at set first + size_from set (first + 1) count
size-more set first count =
    sum_by-cons (λ dimension. cond {A = ℕ} (eqb (bit_at set dimension) 1) 1 0) first (range_with_len (first + 1) count)
    ∙ ap (λ n. n + size_from set (first + 1) count) (weight-bit set first)

-- sets with the same dimensions among these
size-same : (set other first count : ℕ) → ((j : ℕ) → first ≤ j → bit_at other j ≡ bit_at set j)
    → size_from other first count ≡ size_from set first count
size-same set other first zero same = refl
size-same set other first (suc count) same =
    let rest = size-same set other (first + 1) count (λ j low. same j (omega arith)) in
    let here = same first (omega arith) in
    omega (arith, size-more set first count, size-more other first count)

-- a set with one of them more
size-grows : (set other dimension first count : ℕ) → first ≤ dimension → dimension < first + count → bit_at set dimension ≡ 0
    → bit_at other dimension ≡ 1 → ((j : ℕ) → j ≢ dimension → bit_at other j ≡ bit_at set j)
    → size_from other first count ≡ size_from set first count + 1
size-grows set other dimension first zero low high out there same = absurd (omega arith)
size-grows set other dimension first (suc count) low high out there same = ⊎_elim
    (λ is.
    let before = ap (bit_at set) is in
    let now = ap (bit_at other) is in
    let rest = size-same set other (first + 1) count (λ j above. same j (λ e. absurd (omega arith))) in
    omega (arith, size-more set first count, size-more other first count))
    (λ apart.
    let rest = size-grows set other dimension (first + 1) count (omega arith) (omega arith) out there same in
    let here = same first apart in
    omega (arith, size-more set first count, size-more other first count))
    (cases_eq first dimension)

-- a set that gets a dimension which it does not have
pub size-with : (set dimension : ℕ) → dimension < 8 → ¬ (Has set dimension) → size_of (with_number set dimension) ≡ size_of set + 1
size-with set dimension low out =
    let one = bit_at-pow_same dimension in
    let joined = bit_at_or set (2 ^ dimension) dimension in
    let bound = bit_at-lt set dimension in
    size-grows set (with_number set dimension) dimension 0 8 (omega arith) (omega arith) (omega arith) (omega arith)
    (λ j apart.
    let none = bit_at-pow_other dimension j apart in
    let both = bit_at_or set (2 ^ dimension) j in
    omega arith)

-- a set that loses one that it has
pub size-without : (set dimension : ℕ) → dimension < 8 → Has set dimension → size_of (without set (2 ^ dimension)) + 1 ≡ size_of set
size-without set dimension low there =
    let one = bit_at-pow_same dimension in
    let left = bit_at-without set (2 ^ dimension) dimension in
    let less = size-grows (without set (2 ^ dimension)) set dimension 0 8 (omega arith) (omega arith) (omega arith) (omega arith)
    (λ j apart.
    let none = bit_at-pow_other dimension j apart in
    let both = bit_at-without set (2 ^ dimension) j in
    omega arith) in
    omega arith

-- no set has more than all
pub size-most : (set : ℕ) → size_of set ≤ 8
size-most set =
    let many = length-range_with_len 0 8 in
    let most = count_by-le-length (λ dimension. eqb (bit_at set dimension) 1) (range_with_len 0 8) in
    omega arith
