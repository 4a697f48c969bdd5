use Rattle.script_run.proofs.Words.{◌∙◌, ap, err_from_is_err_and, next_ready, refl, state_of, sym}
use Rattle.script_run.proofs.FrontOpenLemmas.{taken-less}
use Rattle.script_run.proofs.FrontReadyLemmas.{halts-writing, ready-some, starts-writing, takes-reply, writes-more, wrote-idle}
use Rattle.script_run.proofs.FrontRunLemmas.{run-taken, run-then}
use Rattle.script_run.proofs.front.write_ready.Goals as goal

pub replies-init : goal.replies-init
replies-init g c = record {
  writing = starts-writing (state_of c.args.core.now) (g.K.Sink.writing c.args.sink.now).taken c.every_core_is_sound.ensures;
  unfailed = refl;
  apart = refl;
}

pub replies-preserved : goal.replies-preserved
replies-preserved g c =
    record {
      writing = writes-more c.a_row_tells_the_reply.ensures _ _ _ _ _ _ _ _ c.in-Some.ready c.into_reply-reply.result c.replies.invariant.writing
          (takes-reply _ _ c.in-Some.ready c.into_reply-reply.result c.replies.invariant.writing.sound c.in-Some.ensures.ready (c.in-Some.ensures.taken refl) c.in-Some.ensures.right c.into_reply-reply.ensures)
          c.in-Some.ensures.sound c.in_ok-refused.ensures.ok c.in_ok-refused.ensures.refused;
      unfailed = c.in_ok-refused.ensures.faults ∙ c.replies.invariant.unfailed;
      apart = c.write_reply-written.ensures.apart ∙ c.replies.invariant.apart;
    }

pub returns-in_err-refused-clause-plays : goal.returns-in_err-refused-clause-plays
returns-in_err-refused-clause-plays g c =
    let failed = err_from_is_err_and c.from_residual.result c.from_residual.ensures.1 in
    rw failed.1 (halts-writing c.a_row_tells_the_reply.ensures _ _ _ _ _ _ _ c.in-Some.ready c.into_reply-reply.result failed.0 c.replies.invariant.writing
    (takes-reply _ _ c.in-Some.ready c.into_reply-reply.result c.replies.invariant.writing.sound c.in-Some.ensures.ready (c.in-Some.ensures.taken refl) c.in-Some.ensures.right c.into_reply-reply.ensures)
    c.in_err-refused.ensures.err)

pub returns-in_err-refused-clause-run : goal.returns-in_err-refused-clause-run
returns-in_err-refused-clause-run g c =
    run-then _ _ _ c.replies.invariant.writing.run
    (run-taken (state_of c.replies.core) (state_of c.take_reply.new.self) (ready-some (state_of c.replies.core) c.in-Some.ready c.in-Some.ensures.ready) (c.in-Some.ensures.taken refl))

pub returns-clause-plays : goal.returns-clause-plays
returns-clause-plays g c = rw (ap state_of (c.in_default.ensures.none refl)) c.replies.invariant.writing.plays

pub returns-clause-all : goal.returns-clause-all
returns-clause-all g c =
    let same = ap state_of (c.in_default.ensures.none refl) in
    record {
      none = ap (λ state. next_ready state 0) same ∙ sym c.in_default.ensures.ready;
      all = wrote-idle c.a_reply_that_may_be_taken_is_right.ensures.waits _ (state_of c.replies.core) (state_of c.take_reply.new.self) _ _ _
          c.replies.invariant.writing same c.in_default.ensures.ready c.in_default.ensures.sound;
    }

pub replies-smaller : goal.replies-smaller
replies-smaller g c =
    taken-less 0 (state_of c.replies.core) (state_of c.take_reply.new.self) _ c.in-Some.ensures.ready (c.in-Some.ensures.taken refl)
