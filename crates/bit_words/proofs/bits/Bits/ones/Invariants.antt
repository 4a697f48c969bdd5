use Rattle.std.proofs.Common.{◌≡◌, ◌*◌, ◌%◌, ◌^◌, ◌≤◌, count_ones}
use Rattle.bit_words.proofs.bits.Bits.ones.Given as goal

abbrev pub invariant-words : goal.invariant-words
invariant-words g l = (l.count ≡ count_ones (l.self % 2 ^ (64 * l.k))) × (l.count ≤ 64 * l.k)
