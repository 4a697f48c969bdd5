use Rattle.pipeline_manager.proofs.SetLemmas.{all-within}
use Rattle.pipeline_manager.proofs.sets.is_within.Goals as goal

pub returns : goal.returns
returns c = all-within c.args.set c.args.other c.ranges.set.fits c.ranges.other.fits
