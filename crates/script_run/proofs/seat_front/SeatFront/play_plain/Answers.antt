-- Those that were taken in one turn with the replies behind them, and then the others.
use Rattle.script_run.proofs.Words.{◌∙◌, err_from_is_err_and}
use Rattle.script_run.proofs.SeatPlaysLemmas.{first-err, first-ok, first-short}
use Rattle.script_run.proofs.seat_front.SeatFront.play_plain.Goals as goal

pub play_each-requires : goal.play_each-requires
play_each-requires g c = c.in-Ok.ensures.plays.plays.seat.out

pub returns-in_err-more-in-Ok-clause-plays : goal.returns-in_err-more-in-Ok-clause-plays
returns-in_err-more-in-Ok-clause-plays g c =
    let failed = err_from_is_err_and c.from_residual.result c.from_residual.ensures.1 in
    rw (failed.1, failed.2) (first-err c.args.board.now c.in-Ok.refused _ c.args.self.now.seat c.play_first-first.new.self.seat
    c.play_each.new.self.seat c.args.statements.items c.play_first-first.new.statements.items _ _ _ c.in-Ok.ensures.plays
    (rw c.in_err-more-in-Ok.was at c.play_each.ensures.plays))

pub returns-in_err-more-in-Ok-clause-apart : goal.returns-in_err-more-in-Ok-clause-apart
returns-in_err-more-in-Ok-clause-apart g c = c.play_each.ensures.apart ∙ c.play_first-first.ensures.apart

pub returns-in_ok-more-in-Ok-clause-plays : goal.returns-in_ok-more-in-Ok-clause-plays
returns-in_ok-more-in-Ok-clause-plays g c =
    first-ok c.args.board.now c.in-Ok.refused _ c.args.self.now.seat c.play_first-first.new.self.seat c.play_each.new.self.seat
    c.args.statements.items c.play_first-first.new.statements.items _ _ _ c.in-Ok.ensures.plays
    (rw c.in_ok-more-in-Ok.was at c.play_each.ensures.plays)

pub returns-in_ok-more-in-Ok-clause-apart : goal.returns-in_ok-more-in-Ok-clause-apart
returns-in_ok-more-in-Ok-clause-apart g c = c.play_each.ensures.apart ∙ c.play_first-first.ensures.apart

pub returns-in-Err-clause-plays : goal.returns-in-Err-clause-plays
returns-in-Err-clause-plays g c =
    first-short c.args.board.now c.in-Err.halt c.args.self.now.seat c.play_first-first.new.self.seat c.args.statements.items
    c.play_first-first.new.statements.items _ _ c.in-Err.ensures.plays
