use Rattle.std.proofs.Common.{arith}
use Rattle.bit_words.proofs.SetLemmas.{none_in_zero}
use Rattle.bit_words.proofs.WordLemmas.{least_taken, least_taken-fewer, nothing_first}
use Rattle.bit_words.proofs.bits.Bits.without_least.Goals as goal

pub returns-in-None-clause-value : goal.returns-in-None-clause-value
returns-in-None-clause-value g c = λ i least.
    let empty =
    nothing_first g.row.W c.self.inside.words c.args.self.now c.self.invariant.0 c.self.invariant.1 c.self.view_is c.in-None.ensures in
    absurd (none_in_zero c.args.self.now i empty least.0)

pub returns-in-None-clause-fewer : goal.returns-in-None-clause-fewer
returns-in-None-clause-fewer g c = λ some.
    let empty =
    nothing_first g.row.W c.self.inside.words c.args.self.now c.self.invariant.0 c.self.invariant.1 c.self.view_is c.in-None.ensures in
    absurd (omega arith)

pub returns-in-Some-clause-value : goal.returns-in-Some-clause-value
returns-in-Some-clause-value g c =
    least_taken c.self.inside.words c.in-Some.k c.args.self.now c.self.invariant.1 c.self.view_is c.in-Some.ensures

pub returns-in-Some-clause-empty : goal.returns-in-Some-clause-empty
returns-in-Some-clause-empty g c = λ empty.
    let less = least_taken-fewer c.self.inside.words c.in-Some.k c.args.self.now c.self.invariant.1 c.self.view_is c.in-Some.ensures in
    absurd (omega arith)

pub returns-in-Some-clause-fewer : goal.returns-in-Some-clause-fewer
returns-in-Some-clause-fewer g c = λ some.
    least_taken-fewer c.self.inside.words c.in-Some.k c.args.self.now c.self.invariant.1 c.self.view_is c.in-Some.ensures
