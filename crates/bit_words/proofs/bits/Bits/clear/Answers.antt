use Rattle.std.proofs.Common.{◌≢◌, ℕ, ◌/◌, ◌<◌, ◌∙◌, ap, sym, subst, arith, length, ◌^◌}
use Rattle.bit_words.specs.Sets.{Has, without}
use Rattle.bit_words.proofs.SetLemmas.{Has-less}
use Rattle.bit_words.proofs.WordLemmas.{set_of-taken}
use Rattle.bit_words.proofs.bits.Bits.clear.Goals as goal

pub returns-clause-value : goal.returns-clause-value
returns-clause-value g c =
    let within : c.args.i / 64 < length c.self.inside.words = omega arith in
    set_of-taken c.self.inside.words c.args.i within c.self.invariant.1
    ∙ ap (λ s. without s (2 ^ c.args.i)) c.self.view_is

pub returns-clause-members : goal.returns-clause-members
returns-clause-members g c = λ j.
    let Q : ℕ → Type 0 = λ s. (Has s j → Has c.args.self.now j × (j ≢ c.args.i)) × (Has c.args.self.now j × (j ≢ c.args.i) → Has s j) in
    subst Q (sym (returns-clause-value g c)) (Has-less c.args.self.now c.args.i j)
