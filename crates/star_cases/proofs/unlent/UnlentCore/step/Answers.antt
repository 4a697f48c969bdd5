-- No batch is lent that the event might pass.
use Rattle.star_cases.proofs.UnlentLemmas.{unlent-home}
use Rattle.star_cases.proofs.unlent.UnlentCore.step.Goals as goal

pub step-requires : goal.step-requires
step-requires c = record { home = unlent-home c.args.event _ c.args.self.now.home }
