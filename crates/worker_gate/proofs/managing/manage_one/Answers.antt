-- Where no event may come nothing has changed.
use Rattle.std.proofs.Common.{refl}
use Rattle.event_core.specs.Seen.{state_of}
use Rattle.worker_gate.proofs.LeftLemmas.{leaves-same, loans-same}
use Rattle.worker_gate.proofs.managing.manage_one.Goals as goal

pub returns-in-None-clause-tells : goal.returns-in-None-clause-tells
returns-in-None-clause-tells c = (refl, c.in-None.ensures.none refl)

pub returns-in-None-clause-leaves : goal.returns-in-None-clause-leaves
returns-in-None-clause-leaves c = leaves-same (state_of c.args.core.now) (state_of c.args.core.now) refl

pub returns-in-None-clause-loans : goal.returns-in-None-clause-loans
returns-in-None-clause-loans c = loans-same c.args.core.now c.args.core.now refl
