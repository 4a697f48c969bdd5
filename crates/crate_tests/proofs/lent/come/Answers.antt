-- Where nothing comes nothing has changed.
use Rattle.core_state.proofs.MoverLemmas.{mindful-none}
use Rattle.std.proofs.Common.{refl}
use Rattle.event_core.specs.Seen.{state_of}
use Rattle.worker_gate.proofs.LeftLemmas.{loans-same}
use Rattle.crate_tests.proofs.lent.come.Goals as goal

pub returns-in-Nothing-clause-mindful : goal.returns-in-Nothing-clause-mindful
returns-in-Nothing-clause-mindful c = mindful-none 0 (state_of c.args.core.now)

pub returns-in-Nothing-clause-loans : goal.returns-in-Nothing-clause-loans
returns-in-Nothing-clause-loans c = loans-same c.args.core.now c.args.core.now refl
