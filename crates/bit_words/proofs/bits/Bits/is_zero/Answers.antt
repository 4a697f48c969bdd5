use Rattle.std.proofs.Common.{◌∙◌, replicate, rules}
use Rattle.std.proofs.Math.ListN.{length-replicate}
use Rattle.std.proofs.lemmas.Bool.Decides.{Decides-eqb}
use Rattle.bit_words.proofs.SetLemmas.{no_members, none_in_zero}
use Rattle.bit_words.proofs.WordLemmas.{same_words, set_of-zeros, AreWords-zeros}
use Rattle.bit_words.proofs.bits.Bits.is_zero.Goals as goal

pub returns-clause-value : goal.returns-clause-value
returns-clause-value g c =
    let same =
    c.eq.ensures
    ∙ same_words g.row.W c.self.inside.words (replicate g.row.W 0)
    c.self.invariant.0 (length-replicate g.row.W 0) c.self.invariant.1 (AreWords-zeros g.row.W)
    c.args.self.now 0 c.self.view_is (set_of-zeros g.row.W) in
    rw same (search (rules, Decides-eqb))

pub returns-clause-members : goal.returns-clause-members
returns-clause-members g c = (
  (λ t j there. none_in_zero c.args.self.now j ((returns-clause-value g c).0 t) there),
  (λ none. (returns-clause-value g c).1 (no_members c.args.self.now none)),
)
