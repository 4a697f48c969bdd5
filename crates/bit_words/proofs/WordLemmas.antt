-- What words hold, word by word and bit by bit.
use Rattle.std.proofs.Common.{◌≡◌, ◌≢◌, ℕ, zero, suc, ◌+◌, ◌-◌, ◌*◌, ◌/◌, ◌%◌, ◌^◌, ◌<◌, List, [], ◌∷◌, length, get_or, set, replicate, refl, ap, sym, subst, ◌∙◌, nat_eq, inl, inr, arith, bit_and, bit_or, count_ones, w64, lit<}
use Rattle.std.proofs.lemmas.Bool.{cases_eq, cases_lt}
use Rattle.std.proofs.lemmas.Bool.Decides.{same_from_decides, Decides-eqb}
use Rattle.std.specs.Cmp.Lexicographic.{pointwise, bytes_decides}
use Rattle.std.proofs.lemmas.List.{get_or_past, get_or-set_same, get_or-set_other}
use Rattle.std.proofs.lemmas.Nat.{div-add-mod', mod_below, and_le_l, or_lt, shr-shr, shr_high, mod_low, mod-pow-add, ones_cat, pow_pos, shr_le}
use Rattle.std.proofs.lemmas.Nat.Bits.{bit_at_cat_low, bit_at_cat_high, bit_at-zero, same_from_bits, bit_at_and, bit_at_or, bit_at_not, bit_at-lt, bit_at_ones, bit_at_set_same, bit_at_set_other, bit_at_clear_same, bit_at_clear_other, bit_at-trailing_zeros}
use Rattle.std.specs.Int.{bit_at, trailing_zeros}
use Rattle.bit_words.specs.Sets.{without, IsLeast}
use Rattle.bit_words.specs.Words.{set_of, words_of, AreWords, words_of-set_of, IsFirstWord}
use Rattle.bit_words.proofs.SetLemmas.{bit_at-pow, bit_at-without, lowest_off, without-member, one_least}

-- words of 0 hold no number
pub set_of-zeros : (n : ℕ) → set_of (replicate n 0) ≡ 0
set_of-zeros zero = refl
set_of-zeros (suc n) = ap (λ s. s * 2 ^ 64 + 0) (set_of-zeros n)

-- words of 0 have 64 bits
pub AreWords-zeros : (n : ℕ) → AreWords (replicate n 0)
AreWords-zeros zero k = lit< tt
AreWords-zeros (suc n) zero = lit< tt
AreWords-zeros (suc n) (suc k) = AreWords-zeros n k

-- a word in front has the numbers below 64
front_word : (word : ℕ) (words : List ℕ) → word < 2 ^ 64 → (j : ℕ) → j < 64 → bit_at (set_of (word ∷ words)) j ≡ bit_at word j
front_word word words below j low = bit_at_cat_low (set_of words) 64 word j low

-- the words behind it have the others, less 64
later_words : (word : ℕ) (words : List ℕ) → word < 2 ^ 64 → (i : ℕ) → bit_at (set_of (word ∷ words)) (64 + i) ≡ bit_at (set_of words) i
later_words word words below i =
    bit_at_cat_high (set_of words) 64 word (64 + i) below (omega arith) ∙ ap (bit_at (set_of words)) (omega arith)

-- word k has the numbers from 64 k on
pub bit_at-set_of : (words : List ℕ) (k j : ℕ) → AreWords words → j < 64
    → bit_at (set_of words) (k * 64 + j) ≡ bit_at (get_or words k 0) j
bit_at-set_of [] k j below low = bit_at-zero (k * 64 + j) ∙ sym (bit_at-zero j)
bit_at-set_of (word ∷ words) zero j below low =
    ap (bit_at (set_of (word ∷ words))) (omega arith) ∙ front_word word words (below 0) j low
bit_at-set_of (word ∷ words) (suc k) j below low =
    ap (bit_at (set_of (word ∷ words))) (omega arith)
    ∙ later_words word words (below 0) (k * 64 + j)
    ∙ bit_at-set_of words k j (λ n. below (suc n)) low

-- the same, at any number
pub bit_at-word : (words : List ℕ) (i : ℕ) → AreWords words → bit_at (set_of words) i ≡ bit_at (get_or words (i / 64) 0) (i % 64)
bit_at-word words i below =
    ap (bit_at (set_of words)) (sym (div-add-mod' i 64)) ∙ bit_at-set_of words (i / 64) (i % 64) below (mod_below i 64 (omega arith))

-- words hold the set that has their bits
pub set_from_words : (words : List ℕ) (set : ℕ) → AreWords words
    → ((k j : ℕ) → j < 64 → bit_at (get_or words k 0) j ≡ bit_at set (k * 64 + j)) → set_of words ≡ set
set_from_words words set below same =
    same_from_bits (set_of words) set (λ i.
    bit_at-word words i below ∙ same (i / 64) (i % 64) (mod_below i 64 (omega arith)) ∙ ap (bit_at set) (div-add-mod' i 64))

-- words that are each the AND of two
pub set_of-both : (n : ℕ) (both a b : List ℕ) → length both ≡ n → length a ≡ n → AreWords both → AreWords a → AreWords b
    → ((k : ℕ) → k < n → get_or both k 0 ≡ bit_and (get_or a k 0) (get_or b k 0))
    → (x y : ℕ) → set_of a ≡ x → set_of b ≡ y → set_of both ≡ bit_and x y
set_of-both n both a b len_both len_a in_both in_a in_b each x y of_a of_b =
    set_from_words both _ in_both (λ k j low.
    let left = bit_at-set_of a k j in_a low in
    let right = bit_at-set_of b k j in_b low in
    let meets = bit_at_and (set_of a) (set_of b) (k * 64 + j) in
    let here = bit_at_and (get_or a k 0) (get_or b k 0) j in
    ap (λ w. bit_at w j) (everywhere k) ∙ omega arith)
    ∙ ap (λ s. bit_and s (set_of b)) of_a ∙ ap (bit_and x) of_b
  where
    everywhere : (k : ℕ) → get_or both k 0 ≡ bit_and (get_or a k 0) (get_or b k 0)
    everywhere k = elim (cases_lt k n) [
      | inl within ↦ each k within
      | inr past ↦
          let none = get_or_past both k 0 (omega arith) in
          let none_there = get_or_past a k 0 (omega arith) in
          let least = and_le_l (get_or a k 0) (get_or b k 0) in
          omega arith
    ]

-- words that are each the OR of two
pub set_of-either : (n : ℕ) (either a b : List ℕ) → length either ≡ n → length a ≡ n → length b ≡ n
    → AreWords either → AreWords a → AreWords b
    → ((k : ℕ) → k < n → get_or either k 0 ≡ bit_or (get_or a k 0) (get_or b k 0))
    → (x y : ℕ) → set_of a ≡ x → set_of b ≡ y → set_of either ≡ bit_or x y
set_of-either n either a b len_either len_a len_b in_either in_a in_b each x y of_a of_b =
    set_from_words either _ in_either (λ k j low.
    let left = bit_at-set_of a k j in_a low in
    let right = bit_at-set_of b k j in_b low in
    let joined = bit_at_or (set_of a) (set_of b) (k * 64 + j) in
    let here = bit_at_or (get_or a k 0) (get_or b k 0) j in
    ap (λ w. bit_at w j) (everywhere k) ∙ omega arith)
    ∙ ap (λ s. bit_or s (set_of b)) of_a ∙ ap (bit_or x) of_b
  where
    everywhere : (k : ℕ) → get_or either k 0 ≡ bit_or (get_or a k 0) (get_or b k 0)
    everywhere k = elim (cases_lt k n) [
      | inl within ↦ each k within
      | inr past ↦
          get_or_past either k 0 (omega arith)
          ∙ sym (ap (λ w. bit_or w (get_or b k 0)) (get_or_past a k 0 (omega arith))
          ∙ ap (bit_or 0) (get_or_past b k 0 (omega arith)))
    ]

-- a word of ones, so many times
abbrev ones_word : ℕ
ones_word = 18446744073709551615

full_words : (n k : ℕ) → k < n → get_or (replicate n ones_word) k 0 ≡ ones_word
full_words zero k within = absurd (omega arith)
full_words (suc n) zero within = refl
full_words (suc n) (suc k) within = full_words n k (omega arith)

-- words of ones have 64 bits
pub AreWords-full : (n : ℕ) → AreWords (replicate n ones_word)
AreWords-full zero k = lit< tt
AreWords-full (suc n) zero = lit< tt
AreWords-full (suc n) (suc k) = AreWords-full n k

-- words of ones hold every number that they have room for
pub Has-full : (n i : ℕ) → i < 64 * n → bit_at (set_of (replicate n ones_word)) i ≡ 1
Has-full n i within =
    bit_at-word _ i (AreWords-full n)
    ∙ ap (λ w. bit_at w (i % 64)) (full_words n (i / 64) (omega arith))
    ∙ bit_at_ones 64 (i % 64) (mod_below i 64 (omega arith))

-- words that are each the AND of one and the complement of another
pub set_of-rest : (n : ℕ) (rest a b : List ℕ) → length rest ≡ n → length a ≡ n → AreWords rest → AreWords a → AreWords b
    → ((k : ℕ) → k < n → get_or rest k 0 ≡ bit_and (get_or a k 0) (2 ^ 64 - 1 - get_or b k 0))
    → (x y : ℕ) → set_of a ≡ x → set_of b ≡ y → set_of rest ≡ without x y
set_of-rest n rest a b len_rest len_a in_rest in_a in_b each x y of_a of_b =
    set_from_words rest _ in_rest (λ k j low.
    let left = bit_at-set_of a k j in_a low in
    let right = bit_at-set_of b k j in_b low in
    let parted = bit_at-without (set_of a) (set_of b) (k * 64 + j) in
    let turned = bit_at_not w64 (get_or b k 0) j (in_b k) low in
    let here = bit_at_and (get_or a k 0) (2 ^ 64 - 1 - get_or b k 0) j in
    let one = bit_at-lt (get_or a k 0) j in
    let other = bit_at-lt (get_or b k 0) j in
    ap (λ w. bit_at w j) (everywhere k) ∙ omega arith)
    ∙ ap (λ s. without s (set_of b)) of_a ∙ ap (without x) of_b
  where
    everywhere : (k : ℕ) → get_or rest k 0 ≡ bit_and (get_or a k 0) (2 ^ 64 - 1 - get_or b k 0)
    everywhere k = elim (cases_lt k n) [
      | inl within ↦ each k within
      | inr past ↦
          let none = get_or_past rest k 0 (omega arith) in
          let none_there = get_or_past a k 0 (omega arith) in
          let least = and_le_l (get_or a k 0) (2 ^ 64 - 1 - get_or b k 0) in
          omega arith
    ]

-- a word that is written has 64 bits
pub AreWords-set : (words : List ℕ) (k word : ℕ) → k < length words → AreWords words → word < 2 ^ 64 → AreWords (set words k word)
AreWords-set words k word within below low n =
    elim (cases_eq n k) [
      | inl same ↦ rw (same, get_or-set_same words k word 0 within) low
      | inr other ↦ rw (get_or-set_other words k n word 0 other) (below n)
    ]

-- one word was written, by which the number i alone changes as `put` says
pub set_of-written : (words : List ℕ) (k word set_now : ℕ) → k < length words → AreWords words → word < 2 ^ 64
    → ((j : ℕ) → j < 64 → bit_at word j ≡ bit_at set_now (k * 64 + j))
    → ((n : ℕ) → n / 64 ≢ k → bit_at (set_of words) n ≡ bit_at set_now n)
    → set_of (set words k word) ≡ set_now
set_of-written words k word set_now within below low here elsewhere =
    set_from_words (set words k word) set_now (AreWords-set words k word within below low) (λ n j small.
    elim (cases_eq n k) [
      | inl same ↦ rw same (ap (λ w. bit_at w j) (get_or-set_same words k word 0 within) ∙ here j small)
      | inr other ↦
          ap (λ w. bit_at w j) (get_or-set_other words k n word 0 other)
          ∙ sym (bit_at-set_of words n j below small)
          ∙ elsewhere (n * 64 + j) (λ e. other (omega arith))
    ])

-- a number is put in
pub set_of-put : (words : List ℕ) (i : ℕ) → i / 64 < length words → AreWords words
    → set_of (set words (i / 64) (bit_or (get_or words (i / 64) 0) (1 * 2 ^ (i % 64) % 2 ^ 64))) ≡ bit_or (set_of words) (2 ^ i)
set_of-put words i within below =
    let inside : i % 64 < 64 = omega arith in
    let word_below : 1 * 2 ^ (i % 64) % 2 ^ 64 < 2 ^ 64 = omega arith in
    set_of-written words (i / 64) _ _ within below (or_lt 64 _ _ (below (i / 64)) word_below)
    (λ j small.
    let old = bit_at-set_of words (i / 64) j below small in
    let joined = bit_at_or (set_of words) (2 ^ i) (i / 64 * 64 + j) in
    let bound = bit_at-lt (set_of words) (i / 64 * 64 + j) in
    elim (cases_eq j (i % 64)) [
      | inl same ↦
          let one = (bit_at-pow i (i / 64 * 64 + j)).0 (omega arith) in
          let put = bit_at_set_same w64 (get_or words (i / 64) 0) (i % 64) inside in
          let here : bit_at (bit_or (get_or words (i / 64) 0) (1 * 2 ^ (i % 64) % 2 ^ 64)) j ≡ 1 = rw same put in
          omega arith
      | inr other ↦
          let none = (bit_at-pow i (i / 64 * 64 + j)).1 (λ e. other (omega arith)) in
          let kept = bit_at_set_other w64 (get_or words (i / 64) 0) (i % 64) inside j other in
          omega arith
    ])
    (λ n other.
    let joined = bit_at_or (set_of words) (2 ^ i) n in
    let none = (bit_at-pow i n).1 (λ e. other (ap (λ m. m / 64) e)) in
    omega arith)

-- a number is taken out
pub set_of-taken : (words : List ℕ) (i : ℕ) → i / 64 < length words → AreWords words
    → set_of (set words (i / 64) (bit_and (get_or words (i / 64) 0) (2 ^ 64 - 1 - 1 * 2 ^ (i % 64) % 2 ^ 64))) ≡ without (set_of words) (2 ^ i)
set_of-taken words i within below =
    let inside : i % 64 < 64 = omega arith in
    let kept_low = and_le_l (get_or words (i / 64) 0) (2 ^ 64 - 1 - 1 * 2 ^ (i % 64) % 2 ^ 64) in
    let word_low = below (i / 64) in
    set_of-written words (i / 64) _ _ within below (omega arith)
    (λ j small.
    let old = bit_at-set_of words (i / 64) j below small in
    let parted = bit_at-without (set_of words) (2 ^ i) (i / 64 * 64 + j) in
    let bound = bit_at-lt (set_of words) (i / 64 * 64 + j) in
    elim (cases_eq j (i % 64)) [
      | inl same ↦
          let one = (bit_at-pow i (i / 64 * 64 + j)).0 (omega arith) in
          let put = bit_at_clear_same w64 (get_or words (i / 64) 0) (i % 64) inside in
          let here : bit_at (bit_and (get_or words (i / 64) 0) (2 ^ 64 - 1 - 1 * 2 ^ (i % 64) % 2 ^ 64)) j ≡ 0 = rw same put in
          omega arith
      | inr other ↦
          let none = (bit_at-pow i (i / 64 * 64 + j)).1 (λ e. other (omega arith)) in
          let kept = bit_at_clear_other w64 (get_or words (i / 64) 0) (i % 64) inside j small other in
          omega arith
    ])
    (λ n other.
    let parted = bit_at-without (set_of words) (2 ^ i) n in
    let none = (bit_at-pow i n).1 (λ e. other (ap (λ m. m / 64) e)) in
    omega arith)

-- words are the same where their sets are
pub same_words : (n : ℕ) (a b : List ℕ) → length a ≡ n → length b ≡ n → AreWords a → AreWords b
    → (x y : ℕ) → set_of a ≡ x → set_of b ≡ y → pointwise nat_eq a b ≡ nat_eq x y
same_words n a b in_a in_b below_a below_b x y of_a of_b =
    same_from_decides {P = x ≡ y} (pointwise nat_eq a b) (nat_eq x y) (
      (λ r. sym of_a ∙ ap set_of ((bytes_decides a b).0 r) ∙ of_b),
      (λ e. (bytes_decides a b).1
          (sym (words_of-set_of n a in_a below_a) ∙ ap (words_of n) (of_a ∙ e ∙ sym of_b) ∙ words_of-set_of n b in_b below_b)),
    )
    (Decides-eqb x y)

-- the least number is in the first word that is not 0
pub least_of_words : (words : List ℕ) (k : ℕ) → AreWords words → ((j : ℕ) → j < k → get_or words j 0 ≡ 0)
    → 0 < get_or words k 0 → IsLeast (set_of words) (64 * k + trailing_zeros w64 (get_or words k 0))
least_of_words words k below zeros some =
    let lowest = bit_at-trailing_zeros w64 (get_or words k 0) some (below k) in
    let place : ℕ = trailing_zeros w64 (get_or words k 0) in (
      ap (bit_at (set_of words)) (omega arith) ∙ bit_at-set_of words k place below lowest.0 ∙ lowest.1,
      λ n there. elim (cases_lt n (64 * k + place)) [
        | inr above ↦ omega arith
        | inl lower ↦
            let here = bit_at-word words n below in
            elim (cases_lt (n / 64) k) [
              | inl earlier ↦
                  let nothing = ap (λ w. bit_at w (n % 64)) (zeros (n / 64) earlier) ∙ bit_at-zero (n % 64) in
                  absurd (omega arith)
              | inr later ↦
                  let same : n / 64 ≡ k = omega arith in
                  let nothing = lowest.2 (n % 64) (omega arith) in
                  let word = ap (λ m. bit_at (get_or words m 0) (n % 64)) same in
                  absurd (omega arith)
            ]
      ],
    )

-- words that are all 0
pub set_of-all_zero : (words : List ℕ) → AreWords words → ((j : ℕ) → get_or words j 0 ≡ 0) → set_of words ≡ 0
set_of-all_zero words below zeros =
    set_from_words words 0 below (λ k j low. ap (λ w. bit_at w j) (zeros k) ∙ bit_at-zero j ∙ sym (bit_at-zero (k * 64 + j)))

-- a number by 1
div_by_one : (n : ℕ) → n / 2 ^ 0 ≡ n
div_by_one n = omega arith

-- no word holds the empty set but 0
nothing_at : (k : ℕ) → 0 / 2 ^ (64 * k) % 2 ^ 64 ≡ 0
nothing_at k = let least = shr_le 0 (64 * k) in omega arith

-- word k of a set
pub word_at : (words : List ℕ) (k : ℕ) → AreWords words → set_of words / 2 ^ (64 * k) % 2 ^ 64 ≡ get_or words k 0
word_at [] k below = nothing_at k
word_at (word ∷ words) zero below = ap (λ n. n % 2 ^ 64) (div_by_one _) ∙ mod_low (set_of words) 64 word (below 0)
word_at (word ∷ words) (suc k) below =
    ap (λ n. set_of (word ∷ words) / 2 ^ n % 2 ^ 64) (omega arith)
    ∙ ap (λ n. n % 2 ^ 64) (sym (shr-shr (set_of (word ∷ words)) 64 (64 * k)))
    ∙ ap (λ n. n / 2 ^ (64 * k) % 2 ^ 64) (shr_high (set_of words) 64 word (below 0))
    ∙ word_at words k (λ n. below (suc n))

-- one word more is counted
pub count-word : (words : List ℕ) (k : ℕ) → AreWords words
    → count_ones (set_of words % 2 ^ (64 * (k + 1))) ≡ count_ones (set_of words % 2 ^ (64 * k)) + count_ones (get_or words k 0)
count-word words k below =
    let low = mod_below (set_of words) (2 ^ (64 * k)) (pow_pos (64 * k)) in
    let parts = ones_cat (64 * k) (get_or words k 0) (set_of words % 2 ^ (64 * k)) low in
    ap (λ n. count_ones (set_of words % 2 ^ n)) (omega arith)
    ∙ ap count_ones (mod-pow-add (set_of words) 64 (64 * k))
    ∙ ap (λ w. count_ones (w * 2 ^ (64 * k) + set_of words % 2 ^ (64 * k))) (word_at words k below)
    ∙ omega arith

-- the lowest one of the first word that is not 0 is taken off
pub set_of-lowest_off : (words : List ℕ) (k : ℕ) → k < length words → AreWords words → 0 < get_or words k 0
    → set_of (set words k (bit_and (get_or words k 0) (get_or words k 0 - 1)))
    ≡ without (set_of words) (2 ^ (64 * k + trailing_zeros w64 (get_or words k 0)))
set_of-lowest_off words k within below some =
    let lowest = bit_at-trailing_zeros w64 (get_or words k 0) some (below k) in
    let place : ℕ = trailing_zeros w64 (get_or words k 0) in
    let word_low = below k in
    let kept_low = and_le_l (get_or words k 0) (get_or words k 0 - 1) in
    set_of-written words k _ _ within below (omega arith)
    (λ j small.
    let old = bit_at-set_of words k j below small in
    let parted = bit_at-without (set_of words) (2 ^ (64 * k + place)) (k * 64 + j) in
    let off = ap (λ w. bit_at w j) (lowest_off (get_or words k 0) place lowest.1 lowest.2) in
    let less = bit_at-without (get_or words k 0) (2 ^ place) j in
    elim (cases_eq j place) [
      | inl same ↦
          let one = (bit_at-pow (64 * k + place) (k * 64 + j)).0 (omega arith) in
          let one_there = (bit_at-pow place j).0 same in
          omega arith
      | inr other ↦
          let none = (bit_at-pow (64 * k + place) (k * 64 + j)).1 (λ e. other (omega arith)) in
          let none_there = (bit_at-pow place j).1 other in
          omega arith
    ])
    (λ n other.
    let parted = bit_at-without (set_of words) (2 ^ (64 * k + place)) n in
    let small = lowest.0 in
    let none = (bit_at-pow (64 * k + place) n).1 (λ e. other (place_of n k place small e)) in
    omega arith)
  where
    place_of : (n k place : ℕ) → place < 64 → n ≡ 64 * k + place → n / 64 ≡ k
    place_of n k place small e = omega arith

-- the least number is in the first word
pub least_in_first : (words : List ℕ) (k set_now : ℕ) → AreWords words → set_of words ≡ set_now → IsFirstWord words k
    → IsLeast set_now (64 * k + trailing_zeros w64 (get_or words k 0)) × (64 * k + trailing_zeros w64 (get_or words k 0) < 64 * length words)
least_in_first words k set_now below view first =
    let lowest = bit_at-trailing_zeros w64 (get_or words k 0) first.1 (below k) in
    let within = first.0 in
    let P : ℕ → Type 0 = λ s. IsLeast s (64 * k + trailing_zeros w64 (get_or words k 0)) in
    (subst P view (least_of_words words k below first.2 first.1), omega arith)

-- the words after the least number is taken out
pub least_taken : (words : List ℕ) (k set_now : ℕ) → AreWords words → set_of words ≡ set_now → IsFirstWord words k
    → (i : ℕ) → IsLeast set_now i
    → set_of (set words k (bit_and (get_or words k 0) (get_or words k 0 - 1))) ≡ without set_now (2 ^ i)
least_taken words k set_now below view first i least =
    set_of-lowest_off words k first.0 below first.1
    ∙ ap (λ s. without s (2 ^ (64 * k + trailing_zeros w64 (get_or words k 0)))) view
    ∙ ap (λ p. without set_now (2 ^ p)) (one_least set_now _ i (least_in_first words k set_now below view first).0 least)

-- there are fewer numbers then, as a number
pub least_taken-fewer : (words : List ℕ) (k set_now : ℕ) → AreWords words → set_of words ≡ set_now → IsFirstWord words k
    → set_of (set words k (bit_and (get_or words k 0) (get_or words k 0 - 1))) < set_now
least_taken-fewer words k set_now below view first =
    let least = (least_in_first words k set_now below view first).0 in
    let taken = least_taken words k set_now below view first _ least in
    let less = without-member set_now _ least.0 in
    let some = pow_pos (64 * k + trailing_zeros w64 (get_or words k 0)) in
    omega arith

-- a word that is written has 64 bits, and there are as many
pub AreWords-lowest_off : (words : List ℕ) (k : ℕ) → k < length words → AreWords words
    → AreWords (set words k (bit_and (get_or words k 0) (get_or words k 0 - 1)))
AreWords-lowest_off words k within below =
    let word_low = below k in
    let kept_low = and_le_l (get_or words k 0) (get_or words k 0 - 1) in
    AreWords-set words k _ within below (omega arith)

-- words of the same set are the same words
pub same_view : (n : ℕ) (a b : List ℕ) → length a ≡ n → length b ≡ n → AreWords a → AreWords b
    → (x : ℕ) → set_of a ≡ x → set_of b ≡ x → a ≡ b
same_view n a b in_a in_b below_a below_b x of_a of_b =
    sym (words_of-set_of n a in_a below_a) ∙ ap (words_of n) (of_a ∙ sym of_b) ∙ words_of-set_of n b in_b below_b

-- words of which each is 0
pub nothing_first : (n : ℕ) (words : List ℕ) (set_now : ℕ) → length words ≡ n → AreWords words → set_of words ≡ set_now
    → ((j : ℕ) → get_or words j 0 ≡ 0) → set_now ≡ 0
nothing_first n words set_now len below view zeros = sym view ∙ set_of-all_zero words below zeros
