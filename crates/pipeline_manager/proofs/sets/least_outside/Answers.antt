use Rattle.pipeline_manager.proofs.SetLemmas.{all-inside, found-outside}
use Rattle.pipeline_manager.proofs.sets.least_outside.Goals as goal

pub returns-clause-some : goal.returns-clause-some
returns-clause-some c =
    found-outside c.args.set c.args.other c.ranges.set.fits c.ranges.other.fits c.least_of.result c.least_of.ensures.some

pub returns-clause-none : goal.returns-clause-none
returns-clause-none c =
    λ none. all-inside c.args.set c.args.other c.ranges.set.fits c.ranges.other.fits (c.least_of.ensures.none none)
