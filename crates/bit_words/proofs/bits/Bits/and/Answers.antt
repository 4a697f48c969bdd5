use Rattle.std.proofs.Common.{ℕ, sym, subst, arith}
use Rattle.bit_words.specs.Sets.{Has}
use Rattle.bit_words.proofs.SetLemmas.{Has-both}
use Rattle.bit_words.proofs.WordLemmas.{set_of-both}
use Rattle.bit_words.proofs.bits.Bits.and.Goals as goal

pub returns-clause-value : goal.returns-clause-value
returns-clause-value g c =
    set_of-both g.row.W c.words.both-inside.words c.both.inside.words c.other.inside.words
    c.words.invariant.0 c.both.invariant.0 c.words.invariant.1 c.both.invariant.1 c.other.invariant.1
    (λ k within. c.words.invariant.2 k (omega arith))
    c.args.self.now c.args.other.now c.both.view_is c.other.view_is

pub returns-clause-members : goal.returns-clause-members
returns-clause-members g c = λ j.
    let Q : ℕ → Type 0 = λ s. (Has s j → Has c.args.self.now j × ((Has c.args.other.now j))) × (Has c.args.self.now j × ((Has c.args.other.now j)) → Has s j) in
    subst Q (sym (returns-clause-value g c)) (Has-both c.args.self.now c.args.other.now j)
