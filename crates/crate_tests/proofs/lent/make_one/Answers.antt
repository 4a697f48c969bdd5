-- Where no event of the kind may come nothing has changed.
use Rattle.std.proofs.Common.{refl}
use Rattle.event_core.specs.Seen.{state_of}
use Rattle.worker_gate.proofs.LeftLemmas.{leaves-same, loans-same}
use Rattle.crate_tests.proofs.lent.make_one.Goals as goal

pub make-requires : goal.make-requires
make-requires c = record { kind = c.in-Some.ensures.kind; managed = c.requires }

pub returns-in-None-clause-leaves : goal.returns-in-None-clause-leaves
returns-in-None-clause-leaves c = leaves-same (state_of c.args.core.now) (state_of c.args.core.now) refl

pub returns-in-None-clause-loans : goal.returns-in-None-clause-loans
returns-in-None-clause-loans c = loans-same c.args.core.now c.args.core.now refl
