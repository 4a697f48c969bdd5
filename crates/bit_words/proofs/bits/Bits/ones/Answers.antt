use Rattle.std.proofs.Common.{◌≡◌, ◌∙◌, ◌+◌, ◌*◌, ◌^◌, ◌%◌, ap, sym, arith, count_ones, get_or}
use Rattle.std.proofs.lemmas.Nat.{ones-le}
use Rattle.bit_words.proofs.SetLemmas.{count_below}
use Rattle.bit_words.proofs.WordLemmas.{count-word}
use Rattle.bit_words.proofs.bits.Bits.ones.Goals as goal

pub words-preserved : goal.words-preserved
words-preserved g c =
    let words = c.self.inside.words in
    let few = ones-le 64 (get_or words c.words.k 0) (c.self.invariant.1 c.words.k) in
    let more = count-word words c.words.k c.self.invariant.1 in
    let sofar = ap (λ s. count_ones (s % 2 ^ (64 * c.words.k))) c.self.view_is in
    let after = ap (λ s. count_ones (s % 2 ^ (64 * (c.words.k + 1)))) c.self.view_is in
    (omega arith, omega arith)

pub returns : goal.returns
returns g c =
    let all : c.words.k ≡ g.row.W = omega arith in
    c.words.invariant.0 ∙ ap (λ k. count_ones (c.args.self.now % 2 ^ (64 * k))) all ∙ sym (count_below _ c.args.self.now)
