use Rattle.std.proofs.Common.{◌∙◌}
use Rattle.bit_words.proofs.WordLemmas.{same_words}
use Rattle.bit_words.proofs.bits.BitsPartialEq.eq.Goals as goal

pub returns : goal.returns
returns g c =
    c.eq.ensures
    ∙ same_words g.row.W c.self.inside.words c.other.inside.words
    c.self.invariant.0 c.other.invariant.0 c.self.invariant.1 c.other.invariant.1
    c.args.self.now c.args.other.now c.self.view_is c.other.view_is
