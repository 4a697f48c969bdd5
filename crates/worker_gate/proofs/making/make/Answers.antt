-- The event was taken: it might come, and wants no memory.
use Rattle.worker_gate.proofs.ManagedLemmas.{was-taken}
use Rattle.worker_gate.proofs.making.make.Goals as goal

pub returns-clause-took : goal.returns-clause-took
returns-clause-took c =
    was-taken c.step.result c.args.core.now c.step.new.self c.args.event c.requires.enabled c.requires.memory
    c.step.ensures.taken c.step.ensures.disabled c.step.ensures.memory

pub returns-clause-loans : goal.returns-clause-loans
returns-clause-loans c = c.what_is_beside_stays_lent.ensures c.args.core.now c.step.new.self c.step.ensures.beside
