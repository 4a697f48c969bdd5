use Rattle.continuous_scan.proofs.LimitLemmas.{bound-wider, wider-both}
use Rattle.continuous_scan.proofs.limits.with_bounds.Goals as goal

pub returns-clause-wider : goal.returns-clause-wider
returns-clause-wider c =
    wider-both c.args.limits c.with_one_more-more.result c.with_bound.result c.with_one_more-more.ensures
    (wider-both c.with_one_more-more.result c.with_bound-below.result c.with_bound.result c.with_bound-below.ensures.wider c.with_bound.ensures.wider)

pub returns-clause-least : goal.returns-clause-least
returns-clause-least c =
    bound-wider c.with_bound-below.result c.with_bound.result c.with_bound.ensures.wider c.args.bounds.now.least c.with_bound-below.ensures.inside

pub returns-clause-greatest : goal.returns-clause-greatest
returns-clause-greatest c = c.with_bound.ensures.inside
