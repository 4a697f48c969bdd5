-- A look goes on from where the work was given back.
use Rattle.std.proofs.Common.{◌<◌, subst, sym}
use Rattle.core_state.specs.declared.settings.RunSettings.{RunSettings}
use Rattle.event_core.specs.Seen.{state_of}
use Rattle.worker_gate.proofs.LeftLemmas.{moves-then, others-then}
use Rattle.worker_gate.proofs.LookLemmas.{last-looked}
use Rattle.worker_gate.proofs.looping.give_and_look.Goals as goal

pub worker_look-requires : goal.worker_look-requires
worker_look-requires c = record {
  seat = subst (λ (settings : RunSettings). c.args.worker < settings.seats) (sym c.give_if_done.ensures.moves.settings) c.requires.seat;
  empty = c.give_if_done.ensures.empty;
}

pub returns-clause-moves : goal.returns-clause-moves
returns-clause-moves c =
    moves-then c.args.worker (state_of c.args.core.now) (state_of c.give_if_done.new.core) (state_of c.worker_look.new.core)
    c.give_if_done.ensures.moves c.worker_look.ensures.moves

pub returns-clause-last : goal.returns-clause-last
returns-clause-last c =
    last-looked c.worker_look.result c.args.worker c.give_if_done.new.core c.worker_look.new.core c.worker_look.ensures.tells

pub returns-clause-others : goal.returns-clause-others
returns-clause-others c =
    others-then c.args.worker c.args.core.now c.give_if_done.new.core c.worker_look.new.core c.give_if_done.ensures.others
    c.worker_look.ensures.others
