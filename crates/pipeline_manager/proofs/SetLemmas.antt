-- What the bits of sets of dimensions say of their members.
use Rattle.std.proofs.Common.{◌≡◌, ◌↔◌, ◌⊎◌, ℕ, ◌-◌, ◌<◌, ◌≤◌, false, true, nat_eq, nat_lt, Option, Some, None, IsTrue, bit_and, w8, sym, ◌∙◌, inl, inr, arith, le-ltb, eqb-true, eq-eqb}
use Rattle.std.specs.Prelude.{IfSome}
use Rattle.std.specs.Int.{bit_at}
use Rattle.std.proofs.lemmas.Bool.{cases_eq, cases_lt}
use Rattle.std.proofs.lemmas.Nat.Bits.{bit_at-lt, bit_at_above, bit_at_not}
use Rattle.bit_words.specs.Sets.{Has}
use Rattle.bit_words.proofs.SetLemmas.{Has-both, no_members, none_in_zero}

-- a set of dimensions has none past the last
none-past : (set dimension : ℕ) → set < 256 → 8 ≤ dimension → ¬ (Has set dimension)
none-past set dimension fits past has =
    let nothing : bit_at set dimension ≡ 0 = bit_at_above set 8 dimension fits past in
    absurd (omega arith)

-- so whether one past the last is in it is whether it is among them
pub in-past : (set dimension : ℕ) → set < 256 → 8 ≤ dimension → IsTrue (nat_lt dimension 8) ↔ Has set dimension
in-past set dimension fits past = (
  (λ low. absurd (let both : false ≡ true = sym (le-ltb dimension 8 past) ∙ low in cc)),
  (λ has. absurd (none-past set dimension fits past has)),
)

-- what is in a set of dimensions is one of them
member-low : (set dimension : ℕ) → set < 256 → Has set dimension → dimension < 8
member-low set dimension fits has = by_cases (cases_lt dimension 8)
  where
    by_cases : (dimension < 8) ⊎ (8 ≤ dimension) → dimension < 8
    by_cases (inl low) = low
    by_cases (inr past) = absurd (none-past set dimension fits past has)

-- the dimensions that are not in a set are in what is left
turned : (other dimension : ℕ) → other < 256 → dimension < 8 → bit_at (255 - other) dimension ≡ 1 - bit_at other dimension
turned other dimension fits low = bit_at_not w8 other dimension fits low

-- what is left of a set without another
left-over : (set other dimension : ℕ) → set < 256 → other < 256
    → Has (bit_and set (255 - other)) dimension ↔ (Has set dimension × ¬ (Has other dimension))
left-over set other dimension fits few = (
  (λ has.
      let both = (Has-both set (255 - other) dimension).0 has in
      let rest = turned other dimension few (member-low set dimension fits both.0) in
      let left = both.1 in
      (both.0, (λ there. absurd (omega arith)))),
  (λ outside.
      let rest = turned other dimension few (member-low set dimension fits outside.0) in
      let bound = bit_at-lt other dimension in
      let gone : bit_at other dimension ≡ 1 → ⊥ = outside.1 in
      (Has-both set (255 - other) dimension).1 (outside.0, omega arith)),
)

-- what is found there is in the set, and not in the other
pub found-outside : (set other : ℕ) → set < 256 → other < 256 → (found : Option ℕ)
    → IfSome found (λ dimension. Has (bit_and set (255 - other)) dimension)
    → IfSome found (λ dimension. Has set dimension × ¬ (Has other dimension))
found-outside set other fits few None there = tt
found-outside set other fits few (Some dimension) there = (left-over set other dimension fits few).0 there

-- where nothing is there, each of the set is in the other
pub all-inside : (set other : ℕ) → set < 256 → other < 256 → ((dimension : ℕ) → ¬ (Has (bit_and set (255 - other)) dimension))
    → (dimension : ℕ) → Has set dimension → Has other dimension
all-inside set other fits few none dimension has = elim (cases_eq (bit_at other dimension) 1) [
  | inl there ↦ there
  | inr gone ↦ absurd (none dimension ((left-over set other dimension fits few).1 (has, gone)))
]

-- whether nothing of a set is outside another is whether each of it is in the other
pub all-within : (set other : ℕ) → set < 256 → other < 256
    → IsTrue (nat_eq (bit_and set (255 - other)) 0) ↔ ((dimension : ℕ) → Has set dimension → Has other dimension)
all-within set other fits few = (
  (λ none. all-inside set other fits few
      (λ dimension. none_in_zero (bit_and set (255 - other)) dimension (eqb-true (bit_and set (255 - other)) 0 none))),
  (λ all. eq-eqb (bit_and set (255 - other)) 0 (no_members (bit_and set (255 - other)) (λ dimension has.
      let outside = (left-over set other dimension fits few).0 has in
      absurd (outside.1 (all dimension outside.0))))),
)
