-- The batch that was taken is in the worker's hand, and lent to it.
use Rattle.std.proofs.Common.{refl, subst, sym}
use Rattle.core_state.specs.State.{State}
use Rattle.core_state.specs.declared.event.Event.TheVariants.{Carry}
use Rattle.event_core.specs.Seen.{state_of}
use Rattle.event_core.specs.Took.{Took}
use Rattle.worker_gate.proofs.LeftLemmas.{moves-taken, others-all, others-then}
use Rattle.worker_gate.proofs.LookLemmas.{held-took, home-took, takes-by}
use Rattle.worker_gate.proofs.working.carry_batch.Goals as goal

pub lend-requires : goal.lend-requires
lend-requires c = record {
  held = held-took c.args.worker c.args.batch (state_of c.args.core.now) (state_of c.make.new.core) c.make.ensures.took;
  home = home-took c.args.worker c.args.batch c.args.core.now c.make.new.core c.make.ensures.took c.make.ensures.beside;
}

pub returns-clause-takes : goal.returns-clause-takes
returns-clause-takes c =
    takes-by c.a_work_stays_right.ensures c.lend.result c.args.worker c.args.batch c.args.core.now c.make.new.core c.lend.new.self
    c.make.ensures.took c.make.ensures.beside c.lend.ensures.state c.lend.ensures.touches.marks c.lend.ensures.work
    c.lend.ensures.waiting c.lend.ensures.touches.sound

pub returns-clause-moves : goal.returns-clause-moves
returns-clause-moves c =
    moves-taken c.a_step_moves_one_row.ensures.one (Carry c.args.worker c.args.batch) (state_of c.args.core.now) (state_of c.lend.new.self)
    c.args.worker tt c.every_core_is_sound.ensures
    (subst (λ (state : State). Took (Carry c.args.worker c.args.batch) (state_of c.args.core.now) state) (sym c.lend.ensures.state) c.make.ensures.took)
    refl

pub returns-clause-others : goal.returns-clause-others
returns-clause-others c =
    others-then c.args.worker c.args.core.now c.make.new.core c.lend.new.self
    (others-all c.args.worker c.args.core.now c.make.new.core c.make.ensures.loans) c.lend.ensures.touches.others
