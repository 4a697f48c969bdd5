-- The first line feed, where some of the bytes were sought for it.
use Rattle.std.proofs.Common.{◌≡◌, ℕ, zero, suc, ◌+◌, ◌<◌, ◌≤◌, Bool, true, false, ◌==◌, List, [], ◌∷◌, length, take, drop, refl, arith, append-nil}
use Rattle.std.specs.Prelude.{not}
use Rattle.std.proofs.lemmas.List.{nil_from_length}
use Rattle.std.proofs.lemmas.List.Sums.{prefix_len-le-length}
use Rattle.script_reader.specs.Script.{is_ended}
use Rattle.script_reader.specs.Open.{FirstLine, NoLine}
use Rattle.script_reader.proofs.LineLemmas.{feed, feed_behind, lines_of-no_feed, whole_lines-append, whole_lines-last, whole_lines-no_feed}

pub feed-within : (s : List ℕ) → feed s ≤ length s
feed-within s = prefix_len-le-length (λ byte. not (byte == 10)) s

sought_step : (x n : ℕ) (xs : List ℕ) (test : Bool) → (x == 10) ≡ test
    → (is_ended (take n xs) ≡ false → feed xs ≡ n + feed (drop n xs))
    → is_ended (x ∷ take n xs) ≡ false → feed (x ∷ xs) ≡ suc n + feed (drop n xs)
sought_step x n xs true e more none = let wrong : true ≡ false = rw e at none in cc
sought_step x n xs false e more none =
    let one : feed (x ∷ xs) ≡ suc (feed xs) = feed_behind x xs e in
    let rest = more (rw e at none) in omega arith

-- behind bytes without a line feed it stands so much further
pub feed-sought : (n : ℕ) (s : List ℕ) → n ≤ length s → is_ended (take n s) ≡ false → feed s ≡ n + feed (drop n s)
feed-sought zero s fits none = omega arith
feed-sought (suc n) [] fits none = absurd (omega arith)
feed-sought (suc n) (x ∷ xs) fits none =
    sought_step x n xs (x == 10) refl (λ h. feed-sought n xs (omega arith) h) none

pub first_line : (ended : Bool) (s : List ℕ) (n : ℕ) → n ≡ feed s → n < length s → FirstLine ended s (n + 1)
first_line ended s n at inside more last may = whole_lines-append s n at inside more last

-- at the end of the input what stands behind the last line feed is a line
pub last_line : (ended : Bool) (s : List ℕ) (n : ℕ) → ended ≡ true → n ≡ feed s → length s ≤ n → 0 < n → FirstLine ended s n
last_line ended s n e at h some more last may =
    let end = may e in
    rw (end.0, end.1, append-nil s, append-nil (drop n s)) (whole_lines-last s n at h some)

pub no_line : (ended : Bool) (s : List ℕ) (n : ℕ) → n ≡ feed s → length s ≤ n → (ended ≡ true → n ≡ 0) → NoLine ended s
no_line ended s n at h none =
    let past : length s ≤ feed s = omega arith in (
      (lines_of-no_feed s past).0,
      whole_lines-no_feed s n at h,
      λ e. let zero_is = none e in nil_from_length s (omega arith),
    )
