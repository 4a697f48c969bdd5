-- Where no event may come nothing has changed, and the mark tells what the worker does.
use Rattle.std.proofs.Common.{refl, subst, sym}
use Rattle.event_core.specs.Board.{core_row}
use Rattle.event_core.specs.Seen.{state_of}
use Rattle.worker_gate.specs.Looks.{HasLooked, TellsLook}
use Rattle.worker_gate.specs.declared.looking.Look.{Look}
use Rattle.worker_gate.proofs.LeftLemmas.{leaves-same, loans-same, moves-none, others-all}
use Rattle.worker_gate.proofs.LookLemmas.{looked-idle, tells-idle}
use Rattle.worker_gate.proofs.looking.look_on.Goals as goal

pub returns-in-None-clause-tells : goal.returns-in-None-clause-tells
returns-in-None-clause-tells c =
    subst (λ (found : Look). TellsLook found c.args.worker c.args.core.now c.args.core.now) (sym c.rest_or_end.ensures)
    (tells-idle c.is_closing.result c.args.worker c.args.core.now c.args.core.now refl
    (record { wants = c.requires.wants; left = c.in-None.ensures.none refl }) c.is_closing.ensures)

pub returns-in-None-clause-moves : goal.returns-in-None-clause-moves
returns-in-None-clause-moves c =
    moves-none c.args.worker (state_of c.args.core.now) (state_of c.args.core.now)
    (leaves-same (state_of c.args.core.now) (state_of c.args.core.now) refl)

pub returns-in-None-clause-hand : goal.returns-in-None-clause-hand
returns-in-None-clause-hand c =
    subst (λ (found : Look). HasLooked found (core_row c.args.core.now c.args.worker)) (sym c.rest_or_end.ensures)
    (looked-idle c.is_closing.result (core_row c.args.core.now c.args.worker) c.requires.empty)

pub returns-in-None-clause-others : goal.returns-in-None-clause-others
returns-in-None-clause-others c =
    others-all c.args.worker c.args.core.now c.args.core.now (loans-same c.args.core.now c.args.core.now refl)
