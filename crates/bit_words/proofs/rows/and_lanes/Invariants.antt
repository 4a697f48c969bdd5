use Rattle.std.proofs.Common.{◌≡◌, ℕ, ◌*◌, ◌/◌, ◌<◌, ◌≤◌, length, get_or, bit_and}
use Rattle.bit_words.proofs.rows.and_lanes.Given as goal

abbrev pub invariant-loop-n : goal.invariant-loop-n
invariant-loop-n l =
    ((j : ℕ) → j < 8 * l.n → get_or l.words j 0 ≡ bit_and (get_or l.initial.words j 0) l.word)
    × ((j : ℕ) → 8 * l.n ≤ j → get_or l.words j 0 ≡ get_or l.initial.words j 0)

abbrev pub invariant-loop-k : goal.invariant-loop-k
invariant-loop-k l =
    (length l.words / 8 * 8 ≤ l.k)
    × ((j : ℕ) → j < length l.words / 8 * 8 → get_or l.words j 0 ≡ get_or l.initial.words j 0)
    × ((j : ℕ) → length l.words / 8 * 8 ≤ j → j < l.k → get_or l.words j 0 ≡ bit_and (get_or l.initial.words j 0) l.word)
    × ((j : ℕ) → l.k ≤ j → get_or l.words j 0 ≡ get_or l.initial.words j 0)
