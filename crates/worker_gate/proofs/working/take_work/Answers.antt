-- A batch that wants a filter may be carried, and where there is none nothing has changed.
use Rattle.std.proofs.Common.{refl}
use Rattle.event_core.specs.Seen.{state_of}
use Rattle.worker_gate.proofs.LeftLemmas.{leaves-same, loans-same, moves-none, others-all}
use Rattle.worker_gate.proofs.LookLemmas.{may-carry}
use Rattle.worker_gate.proofs.working.take_work.Goals as goal

pub carry_batch-requires : goal.carry_batch-requires
carry_batch-requires c =
    may-carry (state_of c.args.core.now) c.args.worker c.in-Some.batch c.every_core_is_sound.ensures c.requires.seat c.requires.empty
    c.in-Some.ensures.some

pub returns-in-None-clause-tells : goal.returns-in-None-clause-tells
returns-in-None-clause-tells c = (refl, c.in-None.ensures.none refl)

pub returns-in-None-clause-moves : goal.returns-in-None-clause-moves
returns-in-None-clause-moves c =
    moves-none c.args.worker (state_of c.args.core.now) (state_of c.args.core.now)
    (leaves-same (state_of c.args.core.now) (state_of c.args.core.now) refl)

pub returns-in-None-clause-others : goal.returns-in-None-clause-others
returns-in-None-clause-others c =
    others-all c.args.worker c.args.core.now c.args.core.now (loans-same c.args.core.now c.args.core.now refl)
