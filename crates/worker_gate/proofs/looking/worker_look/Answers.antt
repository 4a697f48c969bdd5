-- Where no batch was taken nothing has changed, and the look goes on from there.
use Rattle.std.proofs.Common.{◌<◌, subst, sym}
use Rattle.event_core.specs.Board.{core_row}
use Rattle.event_core.specs.CoreParts.{CoreParts}
use Rattle.event_core.specs.Seen.{state_of}
use Rattle.worker_gate.specs.Hands.{HasNothing}
use Rattle.worker_gate.specs.Looks.{NoneWants, TellsLook}
use Rattle.worker_gate.proofs.LeftLemmas.{moves-then, others-then}
use Rattle.worker_gate.proofs.looking.worker_look.Goals as goal

pub look_on-requires : goal.look_on-requires
look_on-requires c = record {
  seat = subst (λ (parts : CoreParts). c.args.worker < (state_of parts).settings.seats) (sym c.in-Nothing.ensures.tells.0) c.requires.seat;
  empty = subst (λ (parts : CoreParts). HasNothing (core_row parts c.args.worker)) (sym c.in-Nothing.ensures.tells.0) c.requires.empty;
  wants = subst (λ (parts : CoreParts). NoneWants (state_of parts)) (sym c.in-Nothing.ensures.tells.0) c.in-Nothing.ensures.tells.1;
}

pub returns-in-Got-clause-hand : goal.returns-in-Got-clause-hand
returns-in-Got-clause-hand c = c.in-Got.ensures.tells.has

pub returns-in-Nothing-clause-tells : goal.returns-in-Nothing-clause-tells
returns-in-Nothing-clause-tells c =
    subst (λ (parts : CoreParts). TellsLook c.look_on.result c.args.worker parts c.look_on.new.core) c.in-Nothing.ensures.tells.0
    c.look_on.ensures.tells

pub returns-in-Nothing-clause-moves : goal.returns-in-Nothing-clause-moves
returns-in-Nothing-clause-moves c =
    moves-then c.args.worker (state_of c.args.core.now) (state_of c.take_work.new.core) (state_of c.look_on.new.core)
    c.take_work.ensures.moves c.look_on.ensures.moves

pub returns-in-Nothing-clause-others : goal.returns-in-Nothing-clause-others
returns-in-Nothing-clause-others c =
    others-then c.args.worker c.args.core.now c.take_work.new.core c.look_on.new.core c.take_work.ensures.others c.look_on.ensures.others
