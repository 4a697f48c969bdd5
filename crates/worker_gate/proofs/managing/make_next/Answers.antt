-- An event that may come was taken, or it clears a filter for which no memory was left.
use Rattle.std.proofs.Common.{ap, ◌∙◌}
use Rattle.core_parts.specs.Lent.{lent_to}
use Rattle.event_core.specs.Seen.{state_of}
use Rattle.worker_gate.proofs.LeftLemmas.{kind-home, leaves-same, loans-same, loans-then}
use Rattle.worker_gate.proofs.ManagedLemmas.{fact-distributed, leaves-managed, managed-first, manages-by, to-clear}
use Rattle.worker_gate.proofs.managing.make_next.Goals as goal

pub step-requires : goal.step-requires
step-requires c = record {
  home = kind-home c.args.next.event (lent_to c.args.core.now.flights)
      (managed-first (state_of c.args.core.now) c.args.next.kind c.args.next.event c.requires);
}

pub count-requires : goal.count-requires
count-requires c = λ is.
    fact-distributed c.args.next.event (state_of c.args.core.now) (state_of c.step.new.self) (c.requires.is_of ∙ is)
    c.every_core_is_sound.ensures c.in-Ok.ensures.taken

pub returns-in-Ok-clause-tells : goal.returns-in-Ok-clause-tells
returns-in-Ok-clause-tells c =
    manages-by c.args.next.kind c.args.next.event c.args.core.now c.step.new.self c.count.new.core c.requires c.in-Ok.ensures.taken
    c.step.ensures.beside c.count.ensures.counted c.count.ensures.orders

pub returns-in-Ok-clause-leaves : goal.returns-in-Ok-clause-leaves
returns-in-Ok-clause-leaves c =
    leaves-managed c.a_step_moves_one_row.ensures.one c.args.next.kind c.args.next.event c.step.new.self.marks (state_of c.args.core.now)
    (state_of c.step.new.self) (state_of c.count.new.core)
    (managed-first (state_of c.args.core.now) c.args.next.kind c.args.next.event c.requires) c.every_core_is_sound.ensures c.step.ensures.sound
    c.in-Ok.ensures.taken c.count.ensures.orders

pub returns-in-Err-clause-tells : goal.returns-in-Err-clause-tells
returns-in-Err-clause-tells c = (
  c.in-Err.ensures.err,
  to-clear c.step.result _ (state_of c.args.core.now) c.args.next.kind c.args.next.event c.in-Err.is c.requires c.step.ensures.disabled
      c.step.ensures.memory,
)

pub returns-in-Err-clause-leaves : goal.returns-in-Err-clause-leaves
returns-in-Err-clause-leaves c = leaves-same (state_of c.args.core.now) (state_of c.step.new.self) (ap state_of c.in-Err.ensures.err)

pub returns-in-Ok-clause-loans : goal.returns-in-Ok-clause-loans
returns-in-Ok-clause-loans c =
    loans-then c.args.core.now c.step.new.self c.count.new.core
    (c.what_is_beside_stays_lent.ensures c.args.core.now c.step.new.self c.step.ensures.beside) c.count.ensures.loans

pub returns-in-Err-clause-loans : goal.returns-in-Err-clause-loans
returns-in-Err-clause-loans c = loans-same c.args.core.now c.step.new.self c.in-Err.ensures.err
