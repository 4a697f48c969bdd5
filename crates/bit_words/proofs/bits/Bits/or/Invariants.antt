use Rattle.std.proofs.Common.{◌≡◌, ℕ, ◌<◌, ◌≤◌, get_or, length, bit_or}
use Rattle.bit_words.specs.Words.{AreWords}
use Rattle.bit_words.proofs.bits.Bits.or.Given as goal

abbrev pub invariant-words : goal.invariant-words
invariant-words g l =
    (length l.either-inside.words ≡ g.row.W)
    × (AreWords l.either-inside.words)
    × ((j : ℕ) → j < l.k → get_or l.either-inside.words j 0 ≡ bit_or (get_or l.initial.either-inside.words j 0) (get_or l.other-inside.words j 0))
    × ((j : ℕ) → l.k ≤ j → get_or l.either-inside.words j 0 ≡ get_or l.initial.either-inside.words j 0)
