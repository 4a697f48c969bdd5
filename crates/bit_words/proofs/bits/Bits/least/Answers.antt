use Rattle.std.proofs.Common.{arith}
use Rattle.bit_words.proofs.WordLemmas.{least_in_first, nothing_first}
use Rattle.bit_words.proofs.bits.Bits.least.Goals as goal

pub returns-in-None : goal.returns-in-None
returns-in-None g c =
    nothing_first g.row.W c.self.inside.words c.args.self.now c.self.invariant.0 c.self.invariant.1 c.self.view_is c.in-None.ensures

pub returns-in-Some : goal.returns-in-Some
returns-in-Some g c =
    let found = least_in_first c.self.inside.words c.in-Some.k c.args.self.now c.self.invariant.1 c.self.view_is c.in-Some.ensures in
    (found.0, omega arith)
