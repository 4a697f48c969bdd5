-- Which set words of 64 bits hold: word k holds the numbers from 64 k on.
use Rattle.std.specs.Prelude.{◌≡◌, ℕ, zero, suc, ◌+◌, ◌*◌, ◌/◌, ◌%◌, ◌^◌, ◌<◌, List, [], ◌∷◌, length, get_or}
use Rattle.std.proofs.Common.{arith, ap, ◌∙◌, refl}
use Rattle.std.proofs.lemmas.Nat.{mod_low, shr_high}

-- the set that the words hold
abbrev pub set_of : List ℕ → ℕ
set_of [] = 0
set_of (word ∷ words) = set_of words * 2 ^ 64 + word

-- the set's first words, this many
abbrev pub words_of : ℕ → ℕ → List ℕ
words_of zero set = []
words_of (suc n) set = (set % 2 ^ 64) ∷ words_of n (set / 2 ^ 64)

-- word k of a set
abbrev pub word_of : ℕ → ℕ → ℕ
word_of set k = set / 2 ^ (64 * k) % 2 ^ 64

-- each word has 64 bits
abbrev pub AreWords : List ℕ → Type 0
AreWords words = (k : ℕ) → get_or words k 0 < 2 ^ 64

-- word k is the first that is not 0
abbrev pub IsFirstWord : List ℕ → ℕ → Type 0
IsFirstWord words k =
    (k < length words) × (0 < get_or words k 0) × ((j : ℕ) → j < k → get_or words j 0 ≡ 0)

-- a word in front of others
in_front : (word set n : ℕ) (words : List ℕ) → word < 2 ^ 64 → words_of n set ≡ words
    → words_of (suc n) (set * 2 ^ 64 + word) ≡ word ∷ words
in_front word set n words below same =
    ap (λ w. w ∷ words_of n ((set * 2 ^ 64 + word) / 2 ^ 64)) (mod_low set 64 word below)
    ∙ ap (λ s. word ∷ words_of n s) (shr_high set 64 word below)
    ∙ ap (λ ws. word ∷ ws) same

-- the words of what words hold are those words
pub words_of-set_of : (n : ℕ) (words : List ℕ) → length words ≡ n → AreWords words
    → words_of n (set_of words) ≡ words
words_of-set_of zero [] same below = refl
words_of-set_of zero (word ∷ words) same below = absurd (omega arith)
words_of-set_of (suc n) [] same below = absurd (omega arith)
words_of-set_of (suc n) (word ∷ words) same below =
    in_front word (set_of words) n words (below 0) (words_of-set_of n words (omega arith) (λ k.
    below (suc k)))
