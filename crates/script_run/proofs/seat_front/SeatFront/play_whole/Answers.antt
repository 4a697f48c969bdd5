-- One run of statements after another, and the three ways out.
use Rattle.script_run.proofs.Words.{◌∙◌, err_from_is_err_and, refl, subst, sym}
use Rattle.script_run.specs.SeatRun.{StopsReading, statements_in_run}
use Rattle.script_run.specs.declared.seat_run.Behind.{Behind}
use Rattle.script_run.proofs.SeatManyLemmas.{reads-fewer}
use Rattle.script_run.proofs.SeatWholeLemmas.{read-all, read-halts, read-more, read-none, read-wants}
use Rattle.script_run.proofs.seat_front.SeatFront.play_whole.Goals as goal

pub runs-init : goal.runs-init
runs-init g c = record { way = read-none c.args.board.now c.args.self.now.seat _ _ c.requires; apart = refl }

pub play_run-requires : goal.play_run-requires
play_run-requires g c = c.runs.invariant.way.plays.seat.out

pub runs-preserved : goal.runs-preserved
runs-preserved g c = record {
  way = read-more c.args.board.now _ _ c.args.self.now.seat c.runs.self.seat c.play_run.new.self.seat _ _ _ _ _ _ _ c.runs.invariant.way
      c.read_run-run.ensures.reads.reads c.read_run-run.ensures.stays (rw c.in_ok-refused.was at c.play_run.ensures.plays);
  apart = c.play_run.ensures.apart ∙ c.runs.invariant.apart;
}

pub runs-smaller : goal.runs-smaller
runs-smaller g c =
    let statements = statements_in_run c.read_run-run.result in
    reads-fewer c.runs.reader c.read_run-run.new.reader statements c.read_run-run.ensures.reads.reads c.read_run-run.ensures.stays
    (subst (λ (behind : Behind). StopsReading behind statements c.read_run-run.new.reader) (sym c.in-More.ensures)
    c.read_run-run.ensures.reads.stops)

pub returns-in-Nothing-clause-plays : goal.returns-in-Nothing-clause-plays
returns-in-Nothing-clause-plays g c =
    let statements = statements_in_run c.read_run-run.result in
    read-all c.args.board.now _ c.args.self.now.seat c.play_run.new.self.seat _ _ _ _
    (read-more c.args.board.now _ _ c.args.self.now.seat c.runs.self.seat c.play_run.new.self.seat _ _ _ _ _ _ _ c.runs.invariant.way
    c.read_run-run.ensures.reads.reads c.read_run-run.ensures.stays (rw c.in_ok-refused.was at c.play_run.ensures.plays))
    (subst (λ (behind : Behind). StopsReading behind statements c.read_run-run.new.reader) (sym c.in-Nothing.ensures)
    c.read_run-run.ensures.reads.stops)

pub returns-in-NoMemory-clause-plays : goal.returns-in-NoMemory-clause-plays
returns-in-NoMemory-clause-plays g c =
    let statements = statements_in_run c.read_run-run.result in
    read-wants c.args.board.now _ c.args.self.now.seat c.play_run.new.self.seat _ _ _ _
    (read-more c.args.board.now _ _ c.args.self.now.seat c.runs.self.seat c.play_run.new.self.seat _ _ _ _ _ _ _ c.runs.invariant.way
    c.read_run-run.ensures.reads.reads c.read_run-run.ensures.stays (rw c.in_ok-refused.was at c.play_run.ensures.plays))
    (subst (λ (behind : Behind). StopsReading behind statements c.read_run-run.new.reader) (sym c.in-NoMemory.ensures)
    c.read_run-run.ensures.reads.stops)

pub returns-in_err-refused-clause-plays : goal.returns-in_err-refused-clause-plays
returns-in_err-refused-clause-plays g c =
    let failed = err_from_is_err_and c.from_residual.result c.from_residual.ensures.1 in
    rw (failed.1, failed.2) (read-halts c.args.board.now _ _ c.args.self.now.seat c.runs.self.seat c.play_run.new.self.seat _ _ _ _ _ _ _
    c.runs.invariant.way c.read_run-run.ensures.reads.reads c.read_run-run.ensures.stays (rw c.in_err-refused.was at c.play_run.ensures.plays))
