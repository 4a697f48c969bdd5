use Rattle.script_run.proofs.Words.{◌∙◌, ◌∷◌, [], err_from_is_err_and, refl, state_of}
use Rattle.script_run.proofs.FrontRunLemmas.{run-itself, run-then, runs-behind}
use Rattle.script_run.proofs.SharedReadLemmas.{reads-first}
use Rattle.script_run.proofs.SharedWholeLemmas.{playing-then, starts-playing, stops-first, stops-wanting, whole-done}
use Rattle.script_run.proofs.WholeLemmas.{fed_on}
use Rattle.script_run.proofs.shared.play_whole.Goals as goal

pub statements-init : goal.statements-init
statements-init g c = record {
  way = λ due waits. starts-playing _ due _ _ waits;
  stays = (refl, refl);
  run = run-itself _;
  room = c.requires;
  unfailed = refl;
  apart = refl;
}

pub returns-in_err-statement-clause-plays : goal.returns-in_err-statement-clause-plays
returns-in_err-statement-clause-plays g c =
    let failed = err_from_is_err_and c.from_residual.result c.from_residual.ensures.1 in
    rw (failed.1, failed.2) (λ due waits.
    (stops-wanting _ _ due _ _ c.next_statement.new.self _ _ _ _ (c.statements.invariant.way due waits) c.in_err-statement.ensures.wanted, tt))

pub returns-in_err-refused-clause-plays : goal.returns-in_err-refused-clause-plays
returns-in_err-refused-clause-plays g c =
    let first = rw c.in-Got.is at c.in_ok-statement.ensures.answers in
    let failed = err_from_is_err_and c.from_residual-in_err-refused.result c.from_residual-in_err-refused.ensures.1 in
    rw (failed.1, failed.2) (λ due waits.
    let way = c.statements.invariant.way due waits in (
      stops-first _ _ _ (state_of c.play.new.self.core) due _ _ c.next_statement.new.self _ c.in-Got.statement _ _ _ _
          way first c.in_ok-statement.ensures.stays (c.in_err-refused.ensures.plays way.plays.0.on.still way.plays.0.on.goes.waits).0,
      tt,
    ))

pub returns-in_err-statement-clause-runs : goal.returns-in_err-statement-clause-runs
returns-in_err-statement-clause-runs g c =
    let failed = err_from_is_err_and c.from_residual.result c.from_residual.ensures.1 in
    rw (failed.1, failed.2) (record { run = c.statements.invariant.run; room = tt; faults = c.statements.invariant.unfailed })

pub returns-in_err-refused-clause-runs : goal.returns-in_err-refused-clause-runs
returns-in_err-refused-clause-runs g c =
    let failed = err_from_is_err_and c.from_residual-in_err-refused.result c.from_residual-in_err-refused.ensures.1 in
    rw (failed.1, failed.2) (runs-behind _ c.args.front.now c.statements.front c.play.new.self _ _ _ c.statements.invariant.run
    c.statements.invariant.unfailed c.in_err-refused.ensures.runs)

pub returns-in_default-clause-runs : goal.returns-in_default-clause-runs
returns-in_default-clause-runs g c = record {
  run = c.statements.invariant.run;
  room = c.statements.invariant.room;
  faults = c.statements.invariant.unfailed;
}

pub statements-preserved : goal.statements-preserved
statements-preserved g c =
    let first = rw c.in-Got.is at c.in_ok-statement.ensures.answers in
    record {
      way = λ due waits.
          let way = c.statements.invariant.way due waits in
          let plays = c.in_ok-refused.ensures.plays way.plays.0.on.still way.plays.0.on.goes.waits in
          playing-then _ _ _ due _ _ _ _ _ _ _ _ (c.in-Got.statement ∷ []) ⊥ way (reads-first c.statements.reader c.next_statement.new.self c.in-Got.statement first)
          c.in_ok-statement.ensures.stays plays.0 plays.1;
      stays = fed_on c.args.reader.now c.statements.reader c.next_statement.new.self c.statements.invariant.stays c.in_ok-statement.ensures.stays;
      run = run-then _ _ _ c.statements.invariant.run c.in_ok-refused.ensures.runs.run;
      room = c.in_ok-refused.ensures.runs.room;
      unfailed = c.in_ok-refused.ensures.runs.faults ∙ c.statements.invariant.unfailed;
      apart = c.play.ensures.apart ∙ c.statements.invariant.apart;
    }

pub returns-in_default-clause-plays : goal.returns-in_default-clause-plays
returns-in_default-clause-plays g c due waits =
    whole-done _ _ due _ _ c.next_statement.new.self _ _ _ _ (c.statements.invariant.way due waits) c.in_default.not-Got
    c.in_ok-statement.ensures.answers c.in_ok-statement.ensures.stays

pub returns-in_err-statement-clause-stays : goal.returns-in_err-statement-clause-stays
returns-in_err-statement-clause-stays g c =
    fed_on c.args.reader.now c.statements.reader c.next_statement.new.self c.statements.invariant.stays c.in_err-statement.ensures.stays

pub returns-in_default-clause-stays : goal.returns-in_default-clause-stays
returns-in_default-clause-stays g c =
    fed_on c.args.reader.now c.statements.reader c.next_statement.new.self c.statements.invariant.stays c.in_ok-statement.ensures.stays

pub returns-in_err-refused-clause-stays : goal.returns-in_err-refused-clause-stays
returns-in_err-refused-clause-stays g c =
    fed_on c.args.reader.now c.statements.reader c.next_statement.new.self c.statements.invariant.stays c.in_ok-statement.ensures.stays
