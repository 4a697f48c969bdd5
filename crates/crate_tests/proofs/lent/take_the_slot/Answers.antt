-- Events, a statement, and events again.
use Rattle.core_state.proofs.MoverLemmas.{mindful-then}
use Rattle.event_core.specs.Seen.{state_of}
use Rattle.worker_gate.proofs.LeftLemmas.{loans-then}
use Rattle.crate_tests.proofs.lent.take_the_slot.Goals as goal

pub returns-clause-mindful : goal.returns-clause-mindful
returns-clause-mindful c =
    mindful-then 0 (state_of c.args.core.now) (state_of c.submit-submitted.new.core) (state_of c.make_each-begun.new.core)
    (mindful-then 0 (state_of c.args.core.now) (state_of c.make_each-freed.new.core) (state_of c.submit-submitted.new.core)
    c.make_each-freed.ensures.mindful c.submit-submitted.ensures.mindful)
    c.make_each-begun.ensures.mindful

pub returns-clause-loans : goal.returns-clause-loans
returns-clause-loans c =
    loans-then c.args.core.now c.submit-submitted.new.core c.make_each-begun.new.core
    (loans-then c.args.core.now c.make_each-freed.new.core c.submit-submitted.new.core c.make_each-freed.ensures.loans
    c.submit-submitted.ensures.loans) c.make_each-begun.ensures.loans
