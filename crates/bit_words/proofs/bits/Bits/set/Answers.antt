use Rattle.std.proofs.Common.{◌⊎◌, ◌≡◌, ℕ, ◌/◌, ◌<◌, ◌∙◌, ap, sym, subst, arith, length, bit_or, ◌^◌}
use Rattle.std.proofs.Math.ListN.{length-set}
use Rattle.std.proofs.lemmas.Nat.{or_lt}
use Rattle.bit_words.specs.Sets.{Has}
use Rattle.bit_words.proofs.SetLemmas.{Has-with}
use Rattle.bit_words.proofs.WordLemmas.{AreWords-set, set_of-put}
use Rattle.bit_words.proofs.bits.Bits.set.Goals as goal

pub invariant_of-self : goal.invariant_of-self
invariant_of-self g c =
    let within : c.args.i / 64 < length c.self.inside.words = omega arith in (
      length-set c.self.inside.words (c.args.i / 64) _ ∙ c.self.invariant.0,
      AreWords-set c.self.inside.words (c.args.i / 64) _ within c.self.invariant.1
          (or_lt 64 _ _ (c.self.invariant.1 (c.args.i / 64)) (omega arith)),
    )

pub returns-clause-value : goal.returns-clause-value
returns-clause-value g c =
    let within : c.args.i / 64 < length c.self.inside.words = omega arith in
    set_of-put c.self.inside.words c.args.i within c.self.invariant.1
    ∙ ap (λ s. bit_or s (2 ^ c.args.i)) c.self.view_is

pub returns-clause-members : goal.returns-clause-members
returns-clause-members g c = λ j.
    let Q : ℕ → Type 0 = λ s. (Has s j → (Has c.args.self.now j) ⊎ (j ≡ c.args.i)) × ((Has c.args.self.now j) ⊎ (j ≡ c.args.i) → Has s j) in
    subst Q (sym (returns-clause-value g c)) (Has-with c.args.self.now c.args.i j)
