use Rattle.event_core.proofs.Words.{refl, state_of}
use Rattle.event_core.proofs.ChoosingLemmas.{none-taken, none-takes, taking-offered}
use Rattle.event_core.proofs.machine.Core.next_taking.Goals as goal

pub returns-in_err-batch-clause-none : goal.returns-in_err-batch-clause-none
returns-in_err-batch-clause-none c = λ none. none-taken (state_of c.args.self.now) (c.in_err-batch.ensures.none refl)

pub returns-in_err-worker-clause-none : goal.returns-in_err-worker-clause-none
returns-in_err-worker-clause-none c = λ none. none-takes (state_of c.args.self.now) (c.in_err-worker.ensures.none refl)

pub returns-clause-enabled : goal.returns-clause-enabled
returns-clause-enabled c =
    taking-offered c.in_ok-worker.worker c.in_ok-batch.batch (state_of c.args.self.now) c.in_ok-worker.ensures.some c.in_ok-batch.ensures.some
