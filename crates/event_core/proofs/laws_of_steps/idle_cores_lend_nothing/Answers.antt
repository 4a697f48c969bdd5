use Rattle.event_core.proofs.OutLemmas.{idle-lend}
use Rattle.event_core.proofs.laws_of_steps.idle_cores_lend_nothing.Goals as goal

pub returns : goal.returns
returns c = idle-lend c.args.core.now
