-- One statement behind another.
use Rattle.script_run.proofs.Words.{◌∙◌, err_from_is_err_and, refl}
use Rattle.std.proofs.Common.{rules}
use Rattle.script_run.proofs.SeatPlaysLemmas.{first-all, first-halts, first-more, first-none}
use Rattle.script_run.proofs.seat_front.SeatFront.play_each.Goals as goal

pub statements-init : goal.statements-init
statements-init g c = record {
  plays = first-none c.args.board.now c.args.self.now.seat _ _ _ (search rules) c.requires;
  apart = refl;
}

pub play-requires : goal.play-requires
play-requires g c = c.statements.invariant.plays.plays.seat.out

pub statements-preserved : goal.statements-preserved
statements-preserved g c = record {
  plays = first-more c.args.board.now _ _ c.args.self.now.seat c.statements.self.seat c.play.new.self.seat _ _ _ c.in-Some.statement _ _ _
      c.statements.invariant.plays c.in-Some.ensures.steps.0 (rw c.in_ok-refused.was at c.play.ensures.plays);
  apart = c.play.ensures.apart ∙ c.statements.invariant.apart;
}

pub returns-in_err-refused-clause-plays : goal.returns-in_err-refused-clause-plays
returns-in_err-refused-clause-plays g c =
    let failed = err_from_is_err_and c.from_residual.result c.from_residual.ensures.1 in
    rw (failed.1, failed.2) (first-halts c.args.board.now _ _ c.args.self.now.seat c.statements.self.seat c.play.new.self.seat _ _ _
    c.in-Some.statement _ _ _ c.statements.invariant.plays c.in-Some.ensures.steps.0 (rw c.in_err-refused.was at c.play.ensures.plays))

pub returns-clause-plays : goal.returns-clause-plays
returns-clause-plays g c =
    first-all c.args.board.now _ c.args.self.now.seat c.statements.self.seat _ _ _ _ _ c.statements.invariant.plays
    c.statements.statement-iterator.rest.ok.0 c.in-None.ensures.steps.0
