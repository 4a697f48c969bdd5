-- One event behind another.
use Rattle.core_state.proofs.MoverLemmas.{mindful-none, mindful-then}
use Rattle.std.proofs.Common.{refl}
use Rattle.event_core.proofs.ChoosingLemmas.{all-managed}
use Rattle.event_core.specs.Seen.{state_of}
use Rattle.worker_gate.proofs.LeftLemmas.{loans-same, loans-then, moves-mindful, moves-none}
use Rattle.crate_tests.proofs.lent.make_each.Goals as goal

pub kinds-init : goal.kinds-init
kinds-init c = record {
  mindful = mindful-none 0 (state_of c.args.core.now);
  loans = loans-same c.args.core.now c.args.core.now refl;
}

pub make_one-all-requires : goal.make_one-all-requires
make_one-all-requires c = all-managed c.args.kinds.now c.requires c.kinds.kind-index _ c.kinds-test.true

pub kinds-preserved : goal.kinds-preserved
kinds-preserved c = record {
  mindful = mindful-then 0 (state_of c.args.core.now) (state_of c.kinds.core) (state_of c.make_one-all.new.core) c.kinds.invariant.mindful
      (moves-mindful 0 (state_of c.kinds.core) (state_of c.make_one-all.new.core)
      (moves-none 0 (state_of c.kinds.core) (state_of c.make_one-all.new.core) c.make_one-all.ensures.leaves));
  loans = loans-then c.args.core.now c.kinds.core c.make_one-all.new.core c.kinds.invariant.loans c.make_one-all.ensures.loans;
}
