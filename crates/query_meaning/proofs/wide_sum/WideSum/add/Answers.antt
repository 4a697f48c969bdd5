use Rattle.std.proofs.Common.{◌+◌, ap, sym, subst, arith}
use Rattle.query_meaning.specs.Summed.{IsSumOf}
use Rattle.query_meaning.proofs.SumLemmas.{added, one_more}
use Rattle.query_meaning.proofs.wide_sum.WideSum.add.Goals as goal

pub invariant_of-self : goal.invariant_of-self
invariant_of-self c =
    let same = ap (λ sum. sum.terms) c.self.view_is in
    subst (IsSumOf (c.self.inside.terms + 1)) (sym (added c.self.inside.terms c.self.inside.total c.args.n c.self.invariant c.ranges.n))
    (one_more c.self.inside.terms c.self.inside.total c.args.n (omega (arith, c.requires)) c.self.invariant c.ranges.n)
