-- Those that were taken in one turn, and the replies behind them.
use Rattle.script_run.proofs.Words.{List, refl, Statement, subst, take}
use Rattle.board_lock.specs.Seats.{view_of}
use Rattle.worker_gate.specs.Turns.{sight_in}
use Rattle.script_run.specs.SeatTurns.{SendsAll}
use Rattle.script_run.proofs.SeatPlaysLemmas.{first-none, first-turn}
use Rattle.script_run.proofs.seat_front.SeatFront.play_first.Goals as goal

pub returns-then-is_empty-clause-plays : goal.returns-then-is_empty-clause-plays
returns-then-is_empty-clause-plays g c =
    first-none c.args.board.now c.args.self.now.seat c.args.statements.now.items c.args.statements.now.items
    (g.K.Sink.writing c.args.sink.now) refl c.requires

pub returns-clause-plays : goal.returns-clause-plays
returns-clause-plays g c =
    let old = view_of c.args.self.now.seat in
    let turn = view_of c.submit_all_turn-given.new.seat in
    let given = c.submit_all_turn-given.result in
    let sent = subst (λ (list : List Statement). SendsAll old.number (take given list) (sight_in old) (sight_in turn))
    c.as_slice.ensures.value c.submit_all_turn-given.ensures.submits in
    first-turn c.args.board.now c.write_replies.result given c.args.self.now.seat c.submit_all_turn-given.new.seat
    c.write_replies.new.self.seat c.args.statements.now.items c.drop_first.new.statements.items _ _ c.submit_all_turn-given.ensures.seat sent
    c.drop_first.ensures c.write_replies.ensures.plays
