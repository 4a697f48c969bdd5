-- Without a work nothing has changed, and the hand was empty.
use Rattle.std.proofs.Common.{refl}
use Rattle.event_core.specs.Seen.{state_of}
use Rattle.worker_gate.proofs.LeftLemmas.{leaves-same, loans-same, moves-none, others-all}
use Rattle.worker_gate.proofs.looping.give_if_done.Goals as goal

pub returns-in-None-clause-moves : goal.returns-in-None-clause-moves
returns-in-None-clause-moves c =
    moves-none c.args.worker (state_of c.args.core.now) (state_of c.args.core.now)
    (leaves-same (state_of c.args.core.now) (state_of c.args.core.now) refl)

pub returns-in-None-clause-others : goal.returns-in-None-clause-others
returns-in-None-clause-others c =
    others-all c.args.worker c.args.core.now c.args.core.now (loans-same c.args.core.now c.args.core.now refl)
