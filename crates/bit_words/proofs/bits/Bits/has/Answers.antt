use Rattle.std.proofs.Common.{◌≡◌, ℕ, ◌∙◌, ap, sym, get_or, ◌/◌, ◌%◌, rules}
use Rattle.std.proofs.lemmas.Bool.Decides.{Decides-eqb}
use Rattle.std.proofs.lemmas.Nat.Bits.{shr_and_one}
use Rattle.std.specs.Int.{bit_at}
use Rattle.bit_words.proofs.WordLemmas.{bit_at-word}
use Rattle.bit_words.proofs.bits.Bits.has.Goals as goal

pub returns : goal.returns
returns g c =
    let word : ℕ = get_or c.self.inside.words (c.args.i / 64) 0 in
    let same : bit_at c.args.self.now c.args.i ≡ bit_at word (c.args.i % 64) =
    sym (ap (λ s. bit_at s c.args.i) c.self.view_is) ∙ bit_at-word c.self.inside.words c.args.i c.self.invariant.1 in
    rw (shr_and_one word (c.args.i % 64)) (rw same (search (rules, Decides-eqb)))
