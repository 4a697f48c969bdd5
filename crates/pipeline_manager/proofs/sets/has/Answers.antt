use Rattle.pipeline_manager.proofs.SetLemmas.{in-past}
use Rattle.pipeline_manager.proofs.sets.has.Goals as goal

pub returns-else-dimension-lt8 : goal.returns-else-dimension-lt8
returns-else-dimension-lt8 c =
    in-past c.args.set c.args.dimension c.ranges.set.fits c.if-dimension-lt8.false
