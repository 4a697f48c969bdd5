use Rattle.script_run.proofs.Words.{err_from_is_err_and, state_of}
use Rattle.script_run.specs.Counted.{HasFreeSlot}
use Rattle.script_run.proofs.FrontPlayLemmas.{on-ok, plays-before, plays-lost}
use Rattle.script_run.proofs.RunLemmas.{counts-behind}
use Rattle.script_run.proofs.front.Front.lose.Goals as goal

pub returns-in_err-play_out-clause-plays : goal.returns-in_err-play_out-clause-plays
returns-in_err-play_out-clause-plays g c statement =
    let failed = err_from_is_err_and c.from_residual.result c.from_residual.ensures.1 in
    rw (failed.1, failed.2) (plays-before _ statement (state_of c.args.self.now.core) (state_of c.play_out.new.self.core) _ _ c.in_err-play_out.ensures.plays)

pub returns-in_err-play_out-clause-runs : goal.returns-in_err-play_out-clause-runs
returns-in_err-play_out-clause-runs g c =
    let failed = err_from_is_err_and c.from_residual.result c.from_residual.ensures.1 in
    rw (failed.1, failed.2) c.in_err-play_out.ensures.runs

pub returns-clause-plays : goal.returns-clause-plays
returns-clause-plays g c statement =
    let all = c.in_ok-play_out.ensures in
    let reply = c.write_reply.ensures in
    plays-lost c.write_reply.result c.in_ok-play_out.field-0 statement (state_of c.args.self.now.core) (state_of c.play_out.new.self.core) _ _ _
    c.play_out.ensures.some all.ends.round all.plays all.ends.all reply.refused reply.ok reply.err

pub returns-clause-runs : goal.returns-clause-runs
returns-clause-runs g c =
    let before = c.in_ok-play_out.ensures.runs in
    record {
      run = before.run;
      room = on-ok {Q = HasFreeSlot c.play_out.new.self} c.write_reply.result before.room;
      faults = counts-behind c.write_reply.result (g.K.Sink.writing c.args.sink.now) (g.K.Sink.writing c.play_out.new.sink)
          (g.K.Sink.writing c.write_reply.new.sink) before.faults c.write_reply.ensures.faults;
    }
