-- What an event tells a worker, where it is no cut.
use Rattle.std.proofs.Common.{subst, sym}
use Rattle.event_core.specs.Board.{core_row}
use Rattle.event_core.specs.Seen.{state_of}
use Rattle.worker_gate.specs.Looks.{HasLooked, TellsLook}
use Rattle.worker_gate.specs.declared.looking.Look.{Look}
use Rattle.worker_gate.proofs.LeftLemmas.{moves-none, others-all}
use Rattle.worker_gate.proofs.LookLemmas.{empty-still, looked-idle, tells-idle}
use Rattle.worker_gate.proofs.looking.make_first.Goals as goal

pub returns-in-Did-clause-tells : goal.returns-in-Did-clause-tells
returns-in-Did-clause-tells c = record { wants = c.requires.manages.wants; manages = c.in-Did.ensures.tells }

pub returns-in-Did-clause-moves : goal.returns-in-Did-clause-moves
returns-in-Did-clause-moves c =
    moves-none c.args.worker (state_of c.args.core.now) (state_of c.make_next.new.core) c.make_next.ensures.leaves

pub returns-in-Did-clause-hand : goal.returns-in-Did-clause-hand
returns-in-Did-clause-hand c =
    empty-still c.args.worker c.args.core.now c.make_next.new.core c.make_next.ensures.leaves c.make_next.ensures.loans
    c.requires.manages.empty

pub returns-in-Did-clause-others : goal.returns-in-Did-clause-others
returns-in-Did-clause-others c = others-all c.args.worker c.args.core.now c.make_next.new.core c.make_next.ensures.loans

pub returns-in-Idle-clause-tells : goal.returns-in-Idle-clause-tells
returns-in-Idle-clause-tells c =
    subst (λ (found : Look). TellsLook found c.args.worker c.args.core.now c.make_next.new.core) (sym c.rest_or_end.ensures)
    (tells-idle c.is_closing.result c.args.worker c.args.core.now c.make_next.new.core c.in-Idle.ensures.tells.0
    (record { wants = c.requires.manages.wants; left = c.in-Idle.ensures.tells.1 }) c.is_closing.ensures)

pub returns-in-Idle-clause-moves : goal.returns-in-Idle-clause-moves
returns-in-Idle-clause-moves c =
    moves-none c.args.worker (state_of c.args.core.now) (state_of c.make_next.new.core) c.make_next.ensures.leaves

pub returns-in-Idle-clause-hand : goal.returns-in-Idle-clause-hand
returns-in-Idle-clause-hand c =
    subst (λ (found : Look). HasLooked found (core_row c.make_next.new.core c.args.worker)) (sym c.rest_or_end.ensures)
    (looked-idle c.is_closing.result (core_row c.make_next.new.core c.args.worker)
    (empty-still c.args.worker c.args.core.now c.make_next.new.core c.make_next.ensures.leaves c.make_next.ensures.loans
    c.requires.manages.empty))

pub returns-in-Idle-clause-others : goal.returns-in-Idle-clause-others
returns-in-Idle-clause-others c = others-all c.args.worker c.args.core.now c.make_next.new.core c.make_next.ensures.loans

pub returns-in-Memory-clause-tells : goal.returns-in-Memory-clause-tells
returns-in-Memory-clause-tells c =
    (c.in-Memory.ensures.tells.0, record { wants = c.requires.manages.wants; clear = c.in-Memory.ensures.tells.1 })

pub returns-in-Memory-clause-moves : goal.returns-in-Memory-clause-moves
returns-in-Memory-clause-moves c =
    moves-none c.args.worker (state_of c.args.core.now) (state_of c.make_next.new.core) c.make_next.ensures.leaves

pub returns-in-Memory-clause-hand : goal.returns-in-Memory-clause-hand
returns-in-Memory-clause-hand c =
    empty-still c.args.worker c.args.core.now c.make_next.new.core c.make_next.ensures.leaves c.make_next.ensures.loans
    c.requires.manages.empty

pub returns-in-Memory-clause-others : goal.returns-in-Memory-clause-others
returns-in-Memory-clause-others c = others-all c.args.worker c.args.core.now c.make_next.new.core c.make_next.ensures.loans
