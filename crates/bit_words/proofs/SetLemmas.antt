-- Sets as numbers: which members each word of `Sets` has.
use Rattle.std.proofs.Common.{◌≡◌, ◌≢◌, ℕ, zero, suc, ◌+◌, ◌-◌, ◌*◌, ◌/◌, ◌%◌, ◌^◌, ◌<◌, ◌↔◌, ◌⊎◌, [], ◌∷◌, ◌++◌, length, refl, ap, sym, ◌∙◌, inl, inr, arith, rules, bit_and, bit_or, count_ones, if◌then◌else◌, ◌==◌, length-append, lit<}
use Rattle.std.proofs.lemmas.Bool.{cases_eq, cases_lt}
use Rattle.std.proofs.lemmas.Nat.{or_disjoint, shr_split, and_mask, and_block, mod-pow-add, ones_cat, mod_below, pow_pos, and_le_l, ones_le_self}
use Rattle.std.proofs.Math.Nat.{zero-mul, add-mul, one-mul}
use Rattle.std.proofs.lemmas.Nat.Bits.{bit_at-zero, bit_at_and, bit_at_or, bit_at_xor, bit_at-lt, bit_at-pow_same, bit_at-pow_other, same_from_bits, and_pow, bit_at_ones_above}
use Rattle.std.specs.Int.{bit_at}
use Rattle.std.specs.Int.Count.{ones}
use Rattle.bit_words.specs.Sets.{Has, with_number, without, IsLeast, members_below}

-- the bits of 2 ^ i: one where i is, and none elsewhere
pub bit_at-pow : (i j : ℕ) → ((j ≡ i → bit_at (2 ^ i) j ≡ 1)) × (j ≢ i → bit_at (2 ^ i) j ≡ 0)
bit_at-pow i j = ((λ same. rw same (bit_at-pow_same i)), (λ other. bit_at-pow_other i j other))

-- the bits of what is in both
pub Has-both : (a b j : ℕ) → Has (bit_and a b) j ↔ (Has a j × Has b j)
Has-both a b j =
    let meets = bit_at_and a b j in
    let left = bit_at-lt a j in
    let right = bit_at-lt b j in
    ((λ h. (omega arith, omega arith)), (λ h. omega arith))

-- what is in either
pub Has-either : (a b j : ℕ) → Has (bit_or a b) j ↔ ((Has a j) ⊎ (Has b j))
Has-either a b j =
    let joins = bit_at_or a b j in
    let left = bit_at-lt a j in
    let right = bit_at-lt b j in
    ((λ h. search (arith, rules)), elim [ inl h ↦ omega arith | inr h ↦ omega arith ])

-- a set and one number more
pub Has-with : (set i j : ℕ) → Has (with_number set i) j ↔ ((Has set j) ⊎ (j ≡ i))
Has-with set i j =
    let joined = bit_at_or set (2 ^ i) j in
    let bound = bit_at-lt set j in
    elim (cases_eq j i) [
      | inl same ↦ let one = (bit_at-pow i j).0 same in ((λ h. inr same), (λ h. omega arith))
      | inr other ↦
          let none = (bit_at-pow i j).1 other in
          ((λ h. inl (omega arith)), elim [ inl h ↦ omega arith | inr e ↦ absurd (other e) ])
    ]

-- the bits that are left
pub bit_at-without : (a b j : ℕ) → bit_at (without a b) j ≡ bit_at a j - bit_at b j
bit_at-without a b j =
    let turned = bit_at_xor (bit_or a b) b j in
    let joined = bit_at_or a b j in
    let left = bit_at-lt a j in
    let right = bit_at-lt b j in
    omega arith

pub Has-without : (a b j : ℕ) → Has (without a b) j ↔ (Has a j × ¬ (Has b j))
Has-without a b j =
    let rest = bit_at-without a b j in
    let left = bit_at-lt a j in
    let right = bit_at-lt b j in
    ((λ h. (omega arith, λ there. omega arith)), (λ h. omega (arith, h.0, h.1)))

-- a set and one number less
pub Has-less : (set i j : ℕ) → Has (without set (2 ^ i)) j ↔ (Has set j × (j ≢ i))
Has-less set i j =
    let rest = bit_at-without set (2 ^ i) j in
    let bound = bit_at-lt set j in
    elim (cases_eq j i) [
      | inl same ↦ let one = (bit_at-pow i j).0 same in ((λ h. absurd (omega arith)), (λ h. absurd (h.1 same)))
      | inr other ↦ let none = (bit_at-pow i j).1 other in ((λ h. (omega arith, other)), (λ h. omega (arith, h.0)))
    ]

-- a set with no member
pub no_members : (set : ℕ) → ((j : ℕ) → ¬ (Has set j)) → set ≡ 0
no_members set none =
    same_from_bits set 0 (λ j.
    let low = bit_at-lt set j in
    let zero_bit = bit_at-zero j in
    let not_one = none j in
    omega arith)

-- the empty set has no member
pub none_in_zero : (set j : ℕ) → set ≡ 0 → ¬ (Has set j)
none_in_zero set j empty there =
    let zero_bit = ap (λ s. bit_at s j) empty ∙ bit_at-zero j in
    absurd (omega arith)

-- a set less one of its members
pub without-member : (set i : ℕ) → Has set i → without set (2 ^ i) + 2 ^ i ≡ set
without-member set i there =
    let apart : bit_and (without set (2 ^ i)) (2 ^ i) ≡ 0 =
    and_pow (without set (2 ^ i)) i ∙ ap (λ b. b * 2 ^ i)
    (bit_at-without set (2 ^ i) i ∙ ap (λ b. bit_at set i - b) (bit_at-pow_same i) ∙ ap (λ b. b - 1) there) ∙ zero-mul (2 ^ i) in
    sym (or_disjoint (without set (2 ^ i)) (2 ^ i) apart)
    ∙ same_from_bits _ set (λ j.
    let joined = bit_at_or (without set (2 ^ i)) (2 ^ i) j in
    let rest = bit_at-without set (2 ^ i) j in
    let low = bit_at-lt set j in
    elim (cases_eq j i) [
      | inl same ↦ let one = (bit_at-pow i j).0 same in let has : bit_at set j ≡ 1 = rw same there in omega arith
      | inr other ↦ let none = (bit_at-pow i j).1 other in omega arith
    ])

-- the members below n, of a set that has none there
none_below : (n set : ℕ) → ((j : ℕ) → j < n → bit_at set j ≡ 0) → members_below n set ≡ []
none_below zero set none = refl
none_below (suc n) set none =
    rw (none n (omega arith)) (rw (none_below n set (λ j low. none j (omega arith))) refl)

-- the members below n, where two sets have the same there
same_below : (n a b : ℕ) → ((j : ℕ) → j < n → bit_at a j ≡ bit_at b j) → members_below n a ≡ members_below n b
same_below zero a b same = refl
same_below (suc n) a b same =
    rw (same n (omega arith), same_below n a b (λ j low. same j (omega arith))) refl

-- taking the least member out takes it off the front of the members
pub members_below-least : (n set i : ℕ) → IsLeast set i → i < n → members_below n set ≡ i ∷ members_below n (without set (2 ^ i))
members_below-least zero set i least low = absurd (omega arith)
members_below-least (suc n) set i least low =
    let nothing_lower : (j : ℕ) → j < i → bit_at set j ≡ 0 = λ j lower.
    let bound = bit_at-lt set j in
    elim (cases_eq (bit_at set j) 1) [ inl there ↦ absurd (let most = least.1 j there in omega arith) | inr gone ↦ omega arith ] in
    let others : (j : ℕ) → j ≢ i → bit_at (without set (2 ^ i)) j ≡ bit_at set j = λ j other.
    let parted = bit_at-without set (2 ^ i) j in
    let none = (bit_at-pow i j).1 other in
    omega arith in
    let gone : bit_at (without set (2 ^ i)) i ≡ 0 =
    bit_at-without set (2 ^ i) i ∙ ap (λ b. bit_at set i - b) (bit_at-pow_same i) ∙ ap (λ b. b - 1) least.0 in
    elim (cases_eq n i) [
      | inl same ↦ at_the_end n set i same least.0 nothing_lower others gone
      | inr other ↦
          rw (others n other)
          (ap (λ front. front ++ (if bit_at set n == 1 then n ∷ [] else [])) (members_below-least n set i least (omega arith)))
    ]
  where
    at_the_end : (n set i : ℕ) → n ≡ i → bit_at set i ≡ 1 → ((j : ℕ) → j < i → bit_at set j ≡ 0)
        → ((j : ℕ) → j ≢ i → bit_at (without set (2 ^ i)) j ≡ bit_at set j) → bit_at (without set (2 ^ i)) i ≡ 0
        → members_below (suc n) set ≡ i ∷ members_below (suc n) (without set (2 ^ i))
    at_the_end n set i same there lower others gone =
        let here : bit_at set n ≡ 1 = ap (bit_at set) same ∙ there in
        let left : bit_at (without set (2 ^ i)) n ≡ 0 = ap (bit_at (without set (2 ^ i))) same ∙ gone in
        let front : members_below n set ≡ [] = none_below n set (λ j low. lower j (omega arith)) in
        let rest : members_below n (without set (2 ^ i)) ≡ [] =
        none_below n (without set (2 ^ i)) (λ j low. others j (λ e. absurd (omega arith)) ∙ lower j (omega arith)) in
        rw (here, left, front, rest) (ap (λ m. m ∷ []) same)

-- a number whose low bits are 0 is a multiple
low_zeros : (word t : ℕ) → ((j : ℕ) → j < t → bit_at word j ≡ 0) → word % 2 ^ t ≡ 0
low_zeros word t zeros =
    sym (and_mask word t)
    ∙ same_from_bits (bit_and word (2 ^ t - 1)) 0 (λ j.
    let meets = bit_at_and word (2 ^ t - 1) j in
    let zero_bit = bit_at-zero j in
    elim (cases_lt j t) [
      | inl low ↦ let none = zeros j low in omega arith
      | inr high ↦ let none = bit_at_ones_above t j high in omega arith
    ])

-- n and n are n
and_self : (n : ℕ) → bit_and n n ≡ n
and_self n = same_from_bits (bit_and n n) n (λ j. let meets = bit_at_and n n j in omega arith)

-- an odd number and the even one below it are the even one
odd_even : (h : ℕ) → bit_and (h * 2 ^ 1 + 1) (h * 2 ^ 1 + 0) ≡ h * 2 ^ 1
odd_even h = and_block 1 h h 1 0 (lit< tt) (lit< tt) ∙ ap (λ n. n * 2 ^ 1 + 0) (and_self h) ∙ omega arith

-- one more of what is multiplied
mul_add_one : (m k : ℕ) → (m + 1) * k ≡ m * k + k
mul_add_one m k = add-mul m 1 k ∙ ap (λ n. m * k + n) (one-mul k)

-- every number is 0 by 1
mod_by_one : (n : ℕ) → n % 2 ^ 0 ≡ 0
mod_by_one n = omega arith

-- a number with ones from t on, less one
less_one : (h t : ℕ) → bit_and ((h * 2 ^ 1 + 1) * 2 ^ t + 0) (h * 2 ^ 1 * 2 ^ t + (2 ^ t - 1)) ≡ h * 2 ^ 1 * 2 ^ t
less_one h t =
    let some = pow_pos t in
    and_block t (h * 2 ^ 1 + 1) (h * 2 ^ 1) 0 (2 ^ t - 1) some (omega arith)
    ∙ (let none = and_le_l 0 (2 ^ t - 1) in
    let even : bit_and (h * 2 ^ 1 + 1) (h * 2 ^ 1) ≡ h * 2 ^ 1 = ap (bit_and (h * 2 ^ 1 + 1)) (omega arith) ∙ odd_even h in
    ap (λ n. n * 2 ^ t + bit_and 0 (2 ^ t - 1)) even ∙ omega arith)

-- the lowest one is taken off a word
pub lowest_off : (word t : ℕ) → bit_at word t ≡ 1 → ((j : ℕ) → j < t → bit_at word j ≡ 0)
    → bit_and word (word - 1) ≡ without word (2 ^ t)
lowest_off word t there lower =
    let some = pow_pos t in
    let zeros = low_zeros word t lower in
    let h : ℕ = word / 2 ^ t / 2 in
    let halves : word / 2 ^ t ≡ h * 2 ^ 1 + 1 = omega arith in
    let split = shr_split word t in
    let whole : word ≡ (h * 2 ^ 1 + 1) * 2 ^ t + 0 =
    sym split ∙ ap (λ n. word / 2 ^ t * 2 ^ t + n) zeros ∙ ap (λ n. n * 2 ^ t + 0) halves in
    let spread = distrib h t in
    let before : word - 1 ≡ h * 2 ^ 1 * 2 ^ t + (2 ^ t - 1) = omega arith in
    let less = without-member word t there in
    let both : bit_and word (word - 1) ≡ bit_and ((h * 2 ^ 1 + 1) * 2 ^ t + 0) (h * 2 ^ 1 * 2 ^ t + (2 ^ t - 1)) =
    ap (λ n. bit_and n (word - 1)) whole ∙ ap (bit_and ((h * 2 ^ 1 + 1) * 2 ^ t + 0)) before in
    let taken = less_one h t in
    omega arith
  where
    distrib : (h t : ℕ) → (h * 2 ^ 1 + 1) * 2 ^ t ≡ h * 2 ^ 1 * 2 ^ t + 2 ^ t
    distrib h t = mul_add_one (h * 2 ^ 1) (2 ^ t)

-- one bit more of a number
mod_one_more : (set n : ℕ) → set % 2 ^ suc n ≡ bit_at set n * 2 ^ n + set % 2 ^ n
mod_one_more set n = ap (λ m. set % 2 ^ m) (omega arith) ∙ mod-pow-add set 1 n

-- 0 has no one in it
ones_of_zero : (n : ℕ) → n ≡ 0 → count_ones n ≡ 0
ones_of_zero n none = let few = ones_le_self n in omega arith

-- 1 has one
one_of_one : count_ones 1 ≡ 1
unfolding ones
one_of_one = refl

ones_of_one : (n : ℕ) → n ≡ 1 → count_ones n ≡ 1
ones_of_one n one = ap count_ones one ∙ one_of_one

-- how many members there are
pub count_below : (n set : ℕ) → length (members_below n set) ≡ count_ones (set % 2 ^ n)
count_below zero set = sym (ones_of_zero _ (mod_by_one set))
count_below (suc n) set =
    let low = mod_below set (2 ^ n) (pow_pos n) in
    let parts = ones_cat n (bit_at set n) (set % 2 ^ n) low in
    let more = ap count_ones (mod_one_more set n) in
    let bound = bit_at-lt set n in
    elim (cases_eq (bit_at set n) 1) [
      | inl there ↦
          let one : count_ones (bit_at set n) ≡ 1 = ones_of_one _ there in
          let ends : length (members_below (suc n) set) ≡ length (members_below n set) + 1 =
          rw there (length-append (members_below n set) (n ∷ [])) in
          let rest = count_below n set in
          omega arith
      | inr gone ↦
          let zero_bit : bit_at set n ≡ 0 = omega arith in
          let none : count_ones (bit_at set n) ≡ 0 = ones_of_zero _ zero_bit in
          let ends : length (members_below (suc n) set) ≡ length (members_below n set) + 0 =
          rw zero_bit (length-append (members_below n set) []) in
          let rest = count_below n set in
          omega arith
    ]

-- a set has one least member
pub one_least : (set i j : ℕ) → IsLeast set i → IsLeast set j → i ≡ j
one_least set i j first second =
    let low = first.1 j second.0 in
    let high = second.1 i first.0 in
    omega arith

-- two sets with the same members are the same set
pub same_members : (a b : ℕ) → ((j : ℕ) → Has a j ↔ Has b j) → a ≡ b
same_members a b same =
    same_from_bits a b (λ j.
    let left = bit_at-lt a j in
    let right = bit_at-lt b j in
    elim (cases_eq (bit_at a j) 1) [
      | inl there ↦ let both = (same j).0 there in omega arith
      | inr gone ↦
          elim (cases_eq (bit_at b j) 1) [
            | inl there ↦ absurd (gone ((same j).1 there))
            | inr gone_too ↦ omega arith
          ]
    ])
