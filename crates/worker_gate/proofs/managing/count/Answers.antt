-- An event of another kind is not counted, and nothing is made behind it.
use Rattle.std.proofs.Common.{refl, sym}
use Rattle.event_core.specs.Seen.{state_of}
use Rattle.worker_gate.proofs.LeftLemmas.{loans-same}
use Rattle.worker_gate.proofs.ManagedLemmas.{counted-other, orders-other}
use Rattle.worker_gate.proofs.managing.count.Goals as goal

pub returns-in_default-clause-counted : goal.returns-in_default-clause-counted
returns-in_default-clause-counted c = sym (counted-other c.args.kind c.args.core.now.marks c.in_default.not-Distribute)

pub returns-in_default-clause-orders : goal.returns-in_default-clause-orders
returns-in_default-clause-orders c = orders-other c.args.kind c.args.core.now.marks (state_of c.args.core.now) c.in_default.not-Distribute

pub returns-in_default-clause-loans : goal.returns-in_default-clause-loans
returns-in_default-clause-loans c = loans-same c.args.core.now c.args.core.now refl
