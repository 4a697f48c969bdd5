-- The first line of a script, by its first line feed.
use Rattle.std.proofs.Common.{◌≡◌, ◌≢◌, ℕ, suc, ◌+◌, ◌<◌, ◌≤◌, Bool, true, false, not, ◌==◌, List, [], ◌∷◌, ◌++◌, length, take, drop, refl, sym, ap, ◌∙◌, arith}
use Rattle.std.specs.List.{concat, position_or_len}
use Rattle.std.proofs.lemmas.Bool.Decides.{nat_tests}
use Rattle.std.proofs.lemmas.List.{take_all, drop_all, length-append, take-append-le, drop-append-le}
use Rattle.std.proofs.lemmas.List.Sums.{prefix_len-le-length}
use Rattle.script_reader.specs.Script.{put_before, lines_of, is_ended, whole_lines}
use Rattle.script_reader.specs.Laws.{LinesJoinedAreTheScript, LineEndsAtItsLineFeed}

-- where the first line feed stands, or the length
abbrev pub feed : List ℕ → ℕ
feed s = position_or_len (λ byte. byte == 10) s

-- behind a first byte that is no line feed everything stands one place further
pub feed_behind : (x : ℕ) (xs : List ℕ) → (x == 10) ≡ false → feed (x ∷ xs) ≡ suc (feed xs)
feed_behind x xs e = rw e (omega arith)

-- one byte in front of a script with a line feed: its first line
lines_of_step : (x : ℕ) (xs : List ℕ) (test : Bool) → (x == 10) ≡ test
    → (feed xs < length xs → lines_of xs ≡ take (suc (feed xs)) xs ∷ lines_of (drop (suc (feed xs)) xs))
    → feed (x ∷ xs) < length (x ∷ xs)
    → lines_of (x ∷ xs) ≡ take (suc (feed (x ∷ xs))) (x ∷ xs) ∷ lines_of (drop (suc (feed (x ∷ xs))) (x ∷ xs))
lines_of_step x xs true e more h = rw e refl
lines_of_step x xs false e more h =
    let one : feed (x ∷ xs) ≡ suc (feed xs) = feed_behind x xs e in
    let inside : feed xs < length xs = omega arith in
    rw (one, e, more inside) refl

-- the first line of a script with a line feed ends behind it
pub lines_of-feed : (s : List ℕ) → feed s < length s → lines_of s ≡ take (suc (feed s)) s ∷ lines_of (drop (suc (feed s)) s)
lines_of-feed [] h = absurd (omega arith)
lines_of-feed (x ∷ xs) h = lines_of_step x xs (x == 10) refl (lines_of-feed xs) h

-- one byte in front of a script with a line feed: its first line has it
is_ended_step : (x : ℕ) (xs : List ℕ) (test : Bool) → (x == 10) ≡ test
    → (feed xs < length xs → is_ended (take (suc (feed xs)) xs) ≡ true)
    → feed (x ∷ xs) < length (x ∷ xs) → is_ended (take (suc (feed (x ∷ xs))) (x ∷ xs)) ≡ true
is_ended_step x xs true e more h = rw e refl
is_ended_step x xs false e more h =
    let one : feed (x ∷ xs) ≡ suc (feed xs) = feed_behind x xs e in
    let inside : feed xs < length xs = omega arith in
    rw (one, e) (more inside)

-- the first line of a script with a line feed has it
is_ended-feed : (s : List ℕ) → feed s < length s → is_ended (take (suc (feed s)) s) ≡ true
is_ended-feed [] h = absurd (omega arith)
is_ended-feed (x ∷ xs) h = is_ended_step x xs (x == 10) refl (is_ended-feed xs) h

-- one byte in front of a script without a line feed
no_feed_step : (x : ℕ) (xs : List ℕ) (test : Bool) → (x == 10) ≡ test
    → (length xs ≤ feed xs → (is_ended xs ≡ false) × (0 < length xs → lines_of xs ≡ xs ∷ []))
    → length (x ∷ xs) ≤ feed (x ∷ xs) → (is_ended (x ∷ xs) ≡ false) × (lines_of (x ∷ xs) ≡ (x ∷ xs) ∷ [])
no_feed_step x xs true e more h = let first : suc (length xs) ≤ 0 = rw e at h in absurd (omega arith)
no_feed_step x [] false e more h = (rw e refl, rw e refl)
no_feed_step x (y ∷ ys) false e more h =
    let one : feed (x ∷ y ∷ ys) ≡ suc (feed (y ∷ ys)) = feed_behind x (y ∷ ys) e in
    let behind : length (y ∷ ys) ≤ feed (y ∷ ys) = omega arith in
    let rest = more behind in
    (rw e rest.0, rw (e, rest.1 (omega arith)) refl)

-- without a line feed all bytes are one line, which has not ended
pub lines_of-no_feed : (s : List ℕ) → length s ≤ feed s → (is_ended s ≡ false) × (0 < length s → lines_of s ≡ s ∷ [])
lines_of-no_feed [] h = (refl, λ l. absurd (omega arith))
lines_of-no_feed (x ∷ xs) h =
    let both = no_feed_step x xs (x == 10) refl (lines_of-no_feed xs) h in (both.0, λ _. both.1)

-- what has come of a script with a line feed
pub whole_lines-feed : (ended : Bool) (s : List ℕ) (n : ℕ) → n ≡ feed s → n < length s
    → whole_lines ended s ≡ take (n + 1) s ∷ whole_lines ended (drop (n + 1) s)
whole_lines-feed true s n at h =
    let inside : feed s < length s = omega arith in
    let one : n + 1 ≡ suc (feed s) = omega arith in
    rw (one, lines_of-feed s inside) refl
whole_lines-feed false s n at h =
    let inside : feed s < length s = omega arith in
    let one : n + 1 ≡ suc (feed s) = omega arith in
    rw (one, lines_of-feed s inside, is_ended-feed s inside) refl

-- at the end of the input, what stands behind the last line feed is a line where it is not empty
pub whole_lines-last : (s : List ℕ) (n : ℕ) → n ≡ feed s → length s ≤ n → 0 < n
    → whole_lines true s ≡ take n s ∷ whole_lines true (drop n s)
whole_lines-last s n at h some =
    let fits = prefix_len-le-length (λ byte. not (byte == 10)) s in
    let none : length s ≤ feed s = omega arith in
    let one = (lines_of-no_feed s none).1 (omega arith) in
    rw (one, take_all n s h, drop_all n s h) refl

-- before the end of the input it is none
pub whole_lines-no_feed : (s : List ℕ) (n : ℕ) → n ≡ feed s → length s ≤ n → whole_lines false s ≡ []
whole_lines-no_feed s n at h =
    let none : length s ≤ feed s = omega arith in
    let fits = prefix_len-le-length (λ byte. not (byte == 10)) s in
    no_whole_line s (lines_of-no_feed s none)
  where
    no_whole_line : (t : List ℕ) → (is_ended t ≡ false) × (0 < length t → lines_of t ≡ t ∷ []) → whole_lines false t ≡ []
    no_whole_line [] both = refl
    no_whole_line (x ∷ xs) both = rw (both.1 (omega arith), both.0) refl

-- one byte in front of a script with a line feed: where it stands, with more behind
feed_step : (x : ℕ) (xs more : List ℕ) (test : Bool) → (x == 10) ≡ test
    → (feed xs < length xs → feed (xs ++ more) ≡ feed xs)
    → feed (x ∷ xs) < length (x ∷ xs) → feed ((x ∷ xs) ++ more) ≡ feed (x ∷ xs)
feed_step x xs more true e rest h = rw e refl
feed_step x xs more false e rest h =
    let one : feed (x ∷ xs) ≡ suc (feed xs) = feed_behind x xs e in
    let inside : feed xs < length xs = omega arith in
    feed_behind x (xs ++ more) e ∙ ap suc (rest inside) ∙ sym one

-- what comes behind a line feed moves none
pub feed-append : (s more : List ℕ) → feed s < length s → feed (s ++ more) ≡ feed s
feed-append [] more h = absurd (omega arith)
feed-append (x ∷ xs) more h = feed_step x xs more (x == 10) refl (feed-append xs more) h

-- whatever still comes, the first line stays
pub whole_lines-append : (s : List ℕ) (n : ℕ) → n ≡ feed s → n < length s → (more : List ℕ) (last : Bool)
    → whole_lines last (s ++ more) ≡ take (n + 1) s ∷ whole_lines last (drop (n + 1) s ++ more)
whole_lines-append s n at h more last =
    let inside : feed s < length s = omega arith in
    let same : n ≡ feed (s ++ more) = at ∙ sym (feed-append s more inside) in
    let behind : n < length (s ++ more) = omega (arith, length-append s more) in
    let fits : n + 1 ≤ length s = omega arith in
    rw (sym (take-append-le (n + 1) s more fits), sym (drop-append-le (n + 1) s more fits)) (whole_lines-feed last (s ++ more) n same behind)

-- a byte at the front of the first line is at the front of all lines joined
concat-put_before : (x : ℕ) (lines : List (List ℕ)) → concat (put_before x lines) ≡ x ∷ concat lines
concat-put_before x [] = refl
concat-put_before x (line ∷ lines) = refl

-- one byte in front of a script: its lines joined
joined_step : (x : ℕ) (xs : List ℕ) (test : Bool) → (x == 10) ≡ test → concat (lines_of xs) ≡ xs → concat (lines_of (x ∷ xs)) ≡ x ∷ xs
joined_step x xs true e more = rw (e, more) refl
joined_step x xs false e more = rw (e, concat-put_before, more) refl

-- the lines joined are the script
pub concat-lines_of : LinesJoinedAreTheScript
concat-lines_of [] = refl
concat-lines_of (x ∷ xs) = joined_step x xs (x == 10) refl (concat-lines_of xs)

-- bytes without a line feed in front of one are a line
pub lines_of-append : LineEndsAtItsLineFeed
lines_of-append [] rest h = refl
lines_of-append (x ∷ xs) rest h =
    let other : x ≢ 10 = h 0 x (omega arith) in
    let e : (x == 10) ≡ false = grind (arith, nat_tests) in
    rw (e, lines_of-append xs rest (λ k d below. h (suc k) d (omega arith))) refl
