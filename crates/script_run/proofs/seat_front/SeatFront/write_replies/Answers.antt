-- One reply behind another.
use Rattle.script_run.proofs.Words.{◌∙◌, [], err_from_is_err_and, refl}
use Rattle.script_run.proofs.SeatPlaysLemmas.{played-err, played-none, played-ok, replies-stay, replies-want, took-err, took-ok}
use Rattle.script_run.proofs.seat_front.SeatFront.write_replies.Goals as goal

pub replies-init : goal.replies-init
replies-init g c = record {
  plays = played-none c.args.board.now c.args.self.now.seat (g.K.Sink.writing c.args.sink.now) c.requires;
  apart = refl;
}

pub replies-preserved : goal.replies-preserved
replies-preserved g c =
    let before = g.K.Sink.writing c.replies.sink in
    let behind = g.K.Sink.writing c.write_reply-written.new.sink in
    record {
      plays = played-ok c.args.board.now _ _ c.args.self.now.seat c.replies.self.seat c.next_reply.new.self.seat [] []
          (g.K.Sink.writing c.args.sink.now) before behind c.replies.invariant.plays
          (took-ok c.args.board.now _ c.in-Got.ready c.into_reply-reply.result c.replies.self.seat c.next_reply.new.self.seat before behind
          c.in-Got.ensures.seat c.in-Got.ensures.tells c.into_reply-reply.ensures c.in_ok-refused-in-Got.ensures.ok
          c.in_ok-refused-in-Got.ensures.refused c.in_ok-refused-in-Got.ensures.faults);
      apart = c.write_reply-written.ensures.apart ∙ c.replies.invariant.apart;
    }

pub returns-in_err-refused-in-Got-clause-plays : goal.returns-in_err-refused-in-Got-clause-plays
returns-in_err-refused-in-Got-clause-plays g c =
    let before = g.K.Sink.writing c.replies.sink in
    let behind = g.K.Sink.writing c.write_reply-written.new.sink in
    let failed = err_from_is_err_and c.from_residual.result c.from_residual.ensures.1 in
    rw (failed.1, failed.2) (played-err c.args.board.now _ _ c.args.self.now.seat c.replies.self.seat c.next_reply.new.self.seat [] []
    (g.K.Sink.writing c.args.sink.now) before behind c.replies.invariant.plays
    (took-err c.args.board.now _ c.in-Got.ready c.into_reply-reply.result c.replies.self.seat c.next_reply.new.self.seat before behind
    c.in-Got.ensures.seat c.in-Got.ensures.tells c.into_reply-reply.ensures c.in_err-refused-in-Got.ensures.err
    c.in_err-refused-in-Got.ensures.faults))

pub returns-in-Nothing-clause-plays : goal.returns-in-Nothing-clause-plays
returns-in-Nothing-clause-plays g c =
    replies-stay c.args.board.now c.replies.refused c.args.self.now.seat c.replies.self.seat c.next_reply.new.self.seat _ _
    c.replies.invariant.plays c.in-Nothing.ensures.seat c.in-Nothing.ensures.tells.0

pub returns-in-NotYet-clause-plays : goal.returns-in-NotYet-clause-plays
returns-in-NotYet-clause-plays g c =
    replies-stay c.args.board.now c.replies.refused c.args.self.now.seat c.replies.self.seat c.next_reply.new.self.seat _ _
    c.replies.invariant.plays c.in-NotYet.ensures.seat c.in-NotYet.ensures.tells

pub returns-in-NoMemory-clause-plays : goal.returns-in-NoMemory-clause-plays
returns-in-NoMemory-clause-plays g c =
    replies-want c.args.board.now c.replies.refused c.args.self.now.seat c.replies.self.seat c.next_reply.new.self.seat _ _
    c.replies.invariant.plays c.in-NoMemory.ensures.seat c.in-NoMemory.ensures.tells
