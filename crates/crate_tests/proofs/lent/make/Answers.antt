-- An event of a kind moves no row.
use Rattle.std.proofs.Common.{ap, subst, sym}
use Rattle.core_parts.specs.Lent.{lent_to}
use Rattle.core_state.specs.declared.event.Event.{Event}
use Rattle.event_core.specs.Chosen.{IsManaged, IsOfKind, kind_of}
use Rattle.event_core.specs.declared.choosing.EventKind.{EventKind}
use Rattle.event_core.specs.Seen.{state_of}
use Rattle.worker_gate.proofs.LeftLemmas.{kind-home, leaves-kind, leaves-same}
use Rattle.crate_tests.proofs.lent.make.Goals as goal

-- the kind of the event is managed
managed : (kind : EventKind) (event : Event) → IsOfKind kind event → IsManaged kind → IsManaged (kind_of event)
managed kind event is = subst IsManaged (sym is)

pub step-requires : goal.step-requires
step-requires c = record { home = kind-home c.args.event (lent_to c.args.core.now.flights) (managed c.args.kind c.args.event c.requires.kind c.requires.managed) }

pub returns-in-Ok-clause-leaves : goal.returns-in-Ok-clause-leaves
returns-in-Ok-clause-leaves c =
    leaves-kind c.a_step_moves_one_row.ensures.one c.args.event (state_of c.args.core.now) (state_of c.step.new.self)
    (managed c.args.kind c.args.event c.requires.kind c.requires.managed) c.every_core_is_sound.ensures c.in-Ok.ensures.taken

pub returns-in-Ok-clause-loans : goal.returns-in-Ok-clause-loans
returns-in-Ok-clause-loans c = c.what_is_beside_stays_lent.ensures c.args.core.now c.step.new.self c.step.ensures.beside

pub returns-in-Err-clause-leaves : goal.returns-in-Err-clause-leaves
returns-in-Err-clause-leaves c = leaves-same (state_of c.args.core.now) (state_of c.step.new.self) (ap state_of c.in-Err.ensures.err)

pub returns-in-Err-clause-loans : goal.returns-in-Err-clause-loans
returns-in-Err-clause-loans c = c.what_is_beside_stays_lent.ensures c.args.core.now c.step.new.self c.step.ensures.beside
