use Rattle.std.proofs.Common.{◌≡◌, ℕ, ◌<◌, ◌≤◌, ◌-◌, ◌^◌, get_or, length, bit_and}
use Rattle.bit_words.specs.Words.{AreWords}
use Rattle.bit_words.proofs.bits.Bits.and_not.Given as goal

abbrev pub invariant-words : goal.invariant-words
invariant-words g l =
    (length l.rest-inside.words ≡ g.row.W)
    × (AreWords l.rest-inside.words)
    × ((j : ℕ) → j < l.k → get_or l.rest-inside.words j 0 ≡ bit_and (get_or l.initial.rest-inside.words j 0) (2 ^ 64 - 1 - get_or l.other-inside.words j 0))
    × ((j : ℕ) → l.k ≤ j → get_or l.rest-inside.words j 0 ≡ get_or l.initial.rest-inside.words j 0)
