-- Those that are given in one turn, and behind them the one by itself.
use Rattle.script_run.proofs.Words.{◌∷◌, [], err_from_is_err_and, List, Ok, Statement, subst, sym}
use Rattle.script_run.specs.SeatFront.{PlaysAt}
use Rattle.script_run.specs.SeatRun.{alone_in}
use Rattle.script_run.proofs.SeatManyLemmas.{not-alone}
use Rattle.script_run.proofs.SeatPlaysLemmas.{played-err, played-ok, played-short}
use Rattle.script_run.proofs.seat_front.SeatFront.play_run.Goals as goal

pub returns-in_err-refused-clause-plays : goal.returns-in_err-refused-clause-plays
returns-in_err-refused-clause-plays g c =
    let failed = err_from_is_err_and c.from_residual.result c.from_residual.ensures.1 in
    rw (failed.1, failed.2) (played-short c.args.board.now _ c.args.self.now.seat c.play_plain.new.self.seat c.args.run.plain.items
    (alone_in c.args.run.end) _ _ (rw c.in_err-refused.was at c.play_plain.ensures.plays))

pub returns-in_default-clause-plays : goal.returns-in_default-clause-plays
returns-in_default-clause-plays g c =
    subst (λ (list : List Statement). PlaysAt c.args.board.now (Ok c.in_ok-refused.refused) c.args.self.now.seat c.play_plain.new.self.seat
    list (g.K.Sink.writing c.args.sink.now) (g.K.Sink.writing c.play_plain.new.sink))
    (sym (not-alone c.args.run.plain.items c.args.run.end c.in_default.not-Alone))
    (rw c.in_ok-refused.was at c.play_plain.ensures.plays)

pub returns-in_err-more-clause-plays : goal.returns-in_err-more-clause-plays
returns-in_err-more-clause-plays g c =
    let failed = err_from_is_err_and c.from_residual-in_err-more.result c.from_residual-in_err-more.ensures.1 in
    rw (failed.1, failed.2, c.in-Alone.is)
    (played-err c.args.board.now _ _ c.args.self.now.seat c.play_plain.new.self.seat c.play.new.self.seat c.args.run.plain.items
    (c.in-Alone.statement ∷ []) _ _ _ (rw c.in_ok-refused.was at c.play_plain.ensures.plays) (rw c.in_err-more.was at c.play.ensures.plays))

pub returns-clause-plays : goal.returns-clause-plays
returns-clause-plays g c =
    rw c.in-Alone.is
    (played-ok c.args.board.now _ _ c.args.self.now.seat c.play_plain.new.self.seat c.play.new.self.seat c.args.run.plain.items
    (c.in-Alone.statement ∷ []) _ _ _ (rw c.in_ok-refused.was at c.play_plain.ensures.plays) (rw c.in_ok-more.was at c.play.ensures.plays))
