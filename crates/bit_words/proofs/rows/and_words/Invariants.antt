use Rattle.std.proofs.Common.{◌≡◌, ℕ, ◌%◌, ◌<◌, ◌≤◌, length, get_or, bit_and}
use Rattle.bit_words.proofs.rows.and_words.Given as goal

abbrev pub invariant-loop-k : goal.invariant-loop-k
invariant-loop-k l =
    ((j : ℕ) → j < l.k → get_or l.words j 0 ≡ bit_and (get_or l.initial.words j 0) (get_or l.others (j % length l.others) 0))
    × ((j : ℕ) → l.k ≤ j → get_or l.words j 0 ≡ get_or l.initial.words j 0)
