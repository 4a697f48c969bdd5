use Rattle.std.proofs.Common.{ℕ, ◌⊎◌, ◌<◌, ◌∙◌, ap, sym, subst, arith, inl, inr, length, get_or, bit_or}
use Rattle.std.proofs.lemmas.Bool.{cases_eq}
use Rattle.std.proofs.Math.ListN.{length-set}
use Rattle.std.proofs.lemmas.List.{get_or-set_same, get_or-set_other}
use Rattle.std.proofs.lemmas.Nat.{or_lt}
use Rattle.bit_words.specs.Sets.{Has}
use Rattle.bit_words.proofs.SetLemmas.{Has-either}
use Rattle.bit_words.proofs.WordLemmas.{AreWords-set, set_of-either}
use Rattle.bit_words.proofs.bits.Bits.or.Goals as goal

pub words-preserved : goal.words-preserved
words-preserved g c =
    let k = c.words.k in
    let within : k < length c.words.either-inside.words = omega arith in (
      length-set c.words.either-inside.words k _ ∙ c.words.invariant.0,
      AreWords-set c.words.either-inside.words k _ within c.words.invariant.1
          (or_lt 64 _ _ (c.words.invariant.1 k) (c.other.invariant.1 k)),
      (λ j low. elim (cases_eq j k) [
        | inl same ↦
            rw same (get_or-set_same c.words.either-inside.words k _ 0 within
            ∙ ap (λ w. bit_or w (get_or c.other.inside.words k 0)) (c.words.invariant.3 k (omega arith)))
        | inr other ↦
            get_or-set_other c.words.either-inside.words k j _ 0 other ∙ c.words.invariant.2 j (omega arith)
      ]),
      (λ j high.
          get_or-set_other c.words.either-inside.words k j _ 0 (λ e. omega arith) ∙ c.words.invariant.3 j (omega arith)),
    )

pub returns-clause-value : goal.returns-clause-value
returns-clause-value g c =
    set_of-either g.row.W c.words.either-inside.words c.either.inside.words c.other.inside.words
    c.words.invariant.0 c.either.invariant.0 c.other.invariant.0 c.words.invariant.1 c.either.invariant.1 c.other.invariant.1
    (λ k within. c.words.invariant.2 k (omega arith))
    c.args.self.now c.args.other.now c.either.view_is c.other.view_is

pub returns-clause-members : goal.returns-clause-members
returns-clause-members g c = λ j.
    let Q : ℕ → Type 0 = λ s. (Has s j → Has c.args.self.now j ⊎ Has c.args.other.now j) × (Has c.args.self.now j ⊎ Has c.args.other.now j → Has s j) in
    subst Q (sym (returns-clause-value g c)) (Has-either c.args.self.now c.args.other.now j)
