use Rattle.std.proofs.Common.{sym, ◌∙◌}
use Rattle.std.proofs.lemmas.Bool.{eqb-false}
use Rattle.continuous_scan.proofs.LimitLemmas.{wider-same}
use Rattle.continuous_scan.proofs.limits.with_test.Goals as goal

pub returns-then-is_in-clause-wider : goal.returns-then-is_in-clause-wider
returns-then-is_in-clause-wider c = c.with_bounds.ensures.wider

pub returns-then-is_in-clause-inside : goal.returns-then-is_in-clause-inside
returns-then-is_in-clause-inside c = λ own. (c.with_bounds.ensures.least, c.with_bounds.ensures.greatest)

pub returns-else-is_in-clause-wider : goal.returns-else-is_in-clause-wider
returns-else-is_in-clause-wider c = wider-same c.args.limits

pub returns-else-is_in-clause-inside : goal.returns-else-is_in-clause-inside
returns-else-is_in-clause-inside c = λ own.
    absurd (eqb-false c.args.test.now.column c.args.column (sym c.is_in.ensures ∙ c.if-is_in.false) own)
