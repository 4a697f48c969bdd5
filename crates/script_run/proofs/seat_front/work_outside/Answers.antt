-- The work that a seat got is done for what is in its hand; without one the hand is empty.
use Rattle.event_core.specs.Lent.{IsDoneFor}
use Rattle.worker_gate.specs.Hands.{IsCarriedOf}
use Rattle.worker_gate.proofs.HandLemmas.{holds-weaker}
use Rattle.script_run.proofs.seat_front.work_outside.Goals as goal

pub do_work-requires : goal.do_work-requires
do_work-requires g c = let has = rw c.in-Got.is at c.requires in has.fresh

pub returns-in-Got-clause-hand : goal.returns-in-Got-clause-hand
returns-in-Got-clause-hand g c =
    let has = rw c.in-Got.is at c.requires in
    holds-weaker (IsCarriedOf c.in-Got.carried) (IsDoneFor c.do_work.result) c.do_work.ensures _ has.holds
