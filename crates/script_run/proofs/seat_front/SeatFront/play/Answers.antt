-- A statement that was sent and the replies behind it, or one for which no memory was left.
use Rattle.script_run.proofs.Words.{◌∷◌, []}
use Rattle.board_lock.specs.Seats.{view_of}
use Rattle.worker_gate.specs.Turns.{sight_in}
use Rattle.script_run.proofs.SeatFrontLemmas.{seat-sent, seat-stays}
use Rattle.script_run.proofs.SeatPlaysLemmas.{played-behind}
use Rattle.script_run.proofs.seat_front.SeatFront.play.Goals as goal

pub returns-then-not-submit_turn-clause-plays : goal.returns-then-not-submit_turn-clause-plays
returns-then-not-submit_turn-clause-plays g c =
    let old = view_of c.args.self.now.seat in
    let stays = c.if-not-submit_turn.ensures.tells.0 in
    let to = g.K.Sink.writing c.args.sink.now in
    played-behind c.args.board.now c.lose.result c.args.self.now.seat c.submit_turn.new.seat c.lose.new.self.seat [] (c.args.statement ∷ [])
    to (g.K.Sink.writing c.lose.new.sink) c.submit_turn.ensures.seat
    (λ due waits. seat-stays old.number (sight_in old) (sight_in (view_of c.submit_turn.new.seat)) due to.taken waits stays)
    (c.lose.ensures.plays c.args.statement)

pub returns-clause-plays : goal.returns-clause-plays
returns-clause-plays g c =
    let old = view_of c.args.self.now.seat in
    let mid = sight_in (view_of c.submit_turn.new.seat) in
    let submitted = c.if-not-submit_turn.ensures.tells in
    let to = g.K.Sink.writing c.args.sink.now in
    played-behind c.args.board.now c.write_replies.result c.args.self.now.seat c.submit_turn.new.seat c.write_replies.new.self.seat
    (c.args.statement ∷ []) [] to (g.K.Sink.writing c.write_replies.new.sink) c.submit_turn.ensures.seat
    (λ due waits. seat-sent old.number c.args.statement (sight_in old) mid due to.taken waits submitted) c.write_replies.ensures.plays
