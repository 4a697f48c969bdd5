-- One statement behind another.
use Rattle.core_state.proofs.MoverLemmas.{mindful-none, mindful-then}
use Rattle.std.proofs.Common.{refl}
use Rattle.event_core.specs.Seen.{state_of}
use Rattle.worker_gate.proofs.LeftLemmas.{loans-same, loans-then}
use Rattle.crate_tests.proofs.lent.submit.Goals as goal

pub statements-init : goal.statements-init
statements-init c = record {
  mindful = mindful-none 0 (state_of c.args.core.now);
  loans = loans-same c.args.core.now c.args.core.now refl;
}

pub statements-preserved : goal.statements-preserved
statements-preserved c = record {
  mindful = mindful-then 0 (state_of c.args.core.now) (state_of c.statements.core) (state_of c.give_next-all.new.core)
      c.statements.invariant.mindful c.give_next-all.ensures.mindful;
  loans = loans-then c.args.core.now c.statements.core c.give_next-all.new.core c.statements.invariant.loans c.give_next-all.ensures.loans;
}
