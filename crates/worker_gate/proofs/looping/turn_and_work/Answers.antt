-- The work that a worker got is done for what is in its hand; without one the hand is empty.
use Rattle.std.proofs.Common.{None, Some}
use Rattle.event_core.specs.Lent.{IsDoneFor}
use Rattle.worker_gate.specs.Hands.{HasDoneIf, IsCarriedOf}
use Rattle.worker_gate.specs.Looks.{HasLooked}
use Rattle.worker_gate.specs.declared.looking.Look.TheVariants as look
use Rattle.worker_gate.proofs.HandLemmas.{holds-weaker}
use Rattle.worker_gate.proofs.TurnLemmas.{out-as}
use Rattle.worker_gate.proofs.looping.turn_and_work.Goals as goal

pub do_work-requires : goal.do_work-requires
do_work-requires g c = c.in-Got.ensures.out.hand.fresh

pub returns-in-Got-clause-on : goal.returns-in-Got-clause-on
returns-in-Got-clause-on g c =
    out-as (HasLooked (look.Got c.in-Got.carried)) (HasDoneIf (Some c.do_work.result))
    (λ row has. holds-weaker (IsCarriedOf c.in-Got.carried) (IsDoneFor c.do_work.result) c.do_work.ensures row has.holds)
    c.args.board.now c.take_turn.new.seat c.in-Got.ensures.out

pub returns-in-Did-clause-on : goal.returns-in-Did-clause-on
returns-in-Did-clause-on g c =
    out-as _ (HasDoneIf None) (λ row none. none) c.args.board.now c.take_turn.new.seat c.in-Did.ensures.out

pub returns-in-Rest-clause-on : goal.returns-in-Rest-clause-on
returns-in-Rest-clause-on g c =
    out-as (HasLooked look.Rest) (HasDoneIf None) (λ row none. none) c.args.board.now c.take_turn.new.seat c.in-Rest.ensures.out

pub returns-in-Closed-clause-on : goal.returns-in-Closed-clause-on
returns-in-Closed-clause-on g c = (
  out-as (HasLooked look.Closed) (HasDoneIf None) (λ row none. none) c.args.board.now c.take_turn.new.seat c.in-Closed.ensures.out,
  c.in-Closed.ensures.last,
)

pub returns-in-Memory-clause-on : goal.returns-in-Memory-clause-on
returns-in-Memory-clause-on g c = (
  out-as (HasLooked look.Memory) (HasDoneIf None) (λ row none. none) c.args.board.now c.take_turn.new.seat c.in-Memory.ensures.out,
  c.in-Memory.ensures.last,
)
