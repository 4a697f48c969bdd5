-- What is asked goes on from where the work was given back.
use Rattle.script_run.proofs.Words.{◌<◌, RunSettings, state_of, subst, sym}
use Rattle.core_state.specs.Rows.{sight_of}
use Rattle.core_state.proofs.MoverLemmas.{mindful-then}
use Rattle.worker_gate.proofs.LeftLemmas.{moves-mindful}
use Rattle.script_run.proofs.SeatTurnLemmas.{asked-behind, loans-then, stays-moved}
use Rattle.script_run.proofs.seat_turn.give_and_ask.Goals as goal

pub ask-requires : goal.ask-requires
ask-requires c = record {
  seat = subst (λ (settings : RunSettings). c.args.seat < settings.seats) (sym c.give_if_done.ensures.moves.settings) c.requires.seat;
  empty = c.give_if_done.ensures.empty;
}

pub returns-clause-asks : goal.returns-clause-asks
returns-clause-asks c =
    let old = state_of c.args.core.now in
    let mid = state_of c.give_if_done.new.core in
    let new = state_of c.ask.new.core in
    record {
      tells = asked-behind c.ask.result c.args.seat (sight_of old c.args.seat) (sight_of mid c.args.seat) (sight_of new c.args.seat)
          (stays-moved c.args.seat old mid c.give_if_done.ensures.moves) c.ask.ensures.asks.tells;
      mindful = mindful-then c.args.seat old mid new (moves-mindful c.args.seat old mid c.give_if_done.ensures.moves)
          c.ask.ensures.asks.mindful;
      others = loans-then c.args.seat c.args.core.now c.give_if_done.new.core c.ask.new.core c.give_if_done.ensures.others
          c.ask.ensures.asks.others;
      hand = c.ask.ensures.asks.hand;
    }
