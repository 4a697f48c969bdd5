use Rattle.std.proofs.Common.{ap, refl, rules, ◌∙◌}
use Rattle.board_lock.specs.Seats.{view_of}
use Rattle.star_io.specs.Link.{ReadingSide, WritingSide}
use Rattle.worker_gate.specs.Turns.{sight_in}
use Rattle.worker_gate.proofs.TurnLemmas.{same-seat, same-then}
use Rattle.session_server.proofs.EndLemmas.{answers-apart, done-ends, ended-ends, fault-ends, halted-ends, limit-ends, unfed-ends}
use Rattle.session_server.proofs.SessionLemmas.{fed-serving, reads-by, replied-serving, serving-apart, starts-serving, starts-without}
use Rattle.session_server.specs.Session.{end_of_halt}
use Rattle.session_server.specs.declared.session_end.SessionEnd.TheVariants as end
use Rattle.session_server.proofs.session.play_session.Goals as goal

pub pieces-init : goal.pieces-init
pieces-init g c = record {
  serving = starts-serving _ _ _ _ _ c.requires.unfed c.requires.rest.due;
  none = starts-without _ c.requires.unfed;
  rest = c.requires.rest;
  same = same-seat c.args.front.now.seat;
  ended = refl;
  unread = refl;
  unwritten = refl;
}

pub pieces-preserved : goal.pieces-preserved
pieces-preserved g c =
    let takes = c.in-Fed.ensures.reads.takes in
    let fed = fed-serving _ _ _ _ _ _ _ _ _ _ takes.0 c.pieces.invariant.serving takes.1 takes.2.0 takes.2.2 in
    let read = serving-apart _ _ _ _ _ _ _ _ _ _ refl (ap (λ (side : WritingSide). side.taken) c.in-Fed.ensures.written) fed in
    let reads = reads-by c.args.front.now.seat c.pieces.front.seat _ _ _ _ _ _ _ c.pieces.invariant.same c.in-Ok.ensures.replies.0 in
    let done = replied-serving _ _ _ _ _ _ _ _ _ _ _ read reads (c.in-Ok.ensures.seat.rest refl).due.pending in
    record {
      serving = serving-apart _ _ _ _ _ _ _ _ _ _ (ap (λ (side : ReadingSide). side.left) c.in-Ok.ensures.read) refl done;
      none = c.in-Ok.ensures.replies.0.all.1;
      rest = c.in-Ok.ensures.seat.rest refl;
      same = same-then c.args.front.now.seat c.pieces.front.seat c.reply_link.new.front.seat c.pieces.invariant.same c.in-Ok.ensures.seat.same;
      ended = ap (λ (side : ReadingSide). side.ended) c.in-Ok.ensures.read ∙ c.in-Fed.ensures.reads.end ∙ c.pieces.invariant.ended;
      unread = ap (λ (side : ReadingSide). side.faults) c.in-Ok.ensures.read ∙ c.in-Fed.ensures.reads.faults ∙ c.pieces.invariant.unread;
      unwritten = c.in-Ok.ensures.faults ∙ ap (λ (side : WritingSide). side.faults) c.in-Fed.ensures.written ∙ c.pieces.invariant.unwritten;
    }

-- The replies halt before the input has ended.

pub returns-in-Err-clause-seat : goal.returns-in-Err-clause-seat
returns-in-Err-clause-seat g c = record {
  ready = c.in-Err.ensures.seat.ready;
  same =
      same-then c.args.front.now.seat c.pieces.front.seat c.reply_link.new.front.seat c.pieces.invariant.same c.in-Err.ensures.seat.same;
  rest = search rules;
}

pub returns-in-Err-clause-answers : goal.returns-in-Err-clause-answers
returns-in-Err-clause-answers g c =
    let old = view_of c.args.front.now.seat in
    let now = view_of c.pieces.front.seat in
    let new = view_of c.reply_link.new.front.seat in
    let takes = c.in-Fed.ensures.reads.takes in
    let fed = fed-serving _ _ _ _ _ _ _ _ _ _ takes.0 c.pieces.invariant.serving takes.1 takes.2.0 takes.2.2 in
    let read = serving-apart _ _ _ _ _ _ _ _ _ _ (ap (λ (side : ReadingSide). side.left) c.in-Err.ensures.read)
    (ap (λ (side : WritingSide). side.taken) c.in-Fed.ensures.written) fed in
    let reads = reads-by c.args.front.now.seat c.pieces.front.seat _ _ _ _ _ _ _ c.pieces.invariant.same c.in-Err.ensures.replies.0 in
    rw c.end_of_halt.ensures (halted-ends c.in-Err.halt old.number (sight_in old) (sight_in now) (sight_in new) _ _ _ _ _ _ _ read reads
    (ap (λ (side : ReadingSide). side.ended) c.in-Err.ensures.read ∙ c.in-Fed.ensures.reads.end ∙ c.pieces.invariant.ended)
    (ap (λ (side : ReadingSide). side.faults) c.in-Err.ensures.read ∙ c.in-Fed.ensures.reads.faults ∙ c.pieces.invariant.unread))

pub returns-in-Err-clause-made : goal.returns-in-Err-clause-made
returns-in-Err-clause-made g c =
    let reads = reads-by c.args.front.now.seat c.pieces.front.seat _ _ _ _ _ _ _ c.pieces.invariant.same c.in-Err.ensures.replies.0 in
    reads.on.goes.waits.made

-- The reading ends.

pub returns-in-Fault-clause-answers : goal.returns-in-Fault-clause-answers
returns-in-Fault-clause-answers g c =
    let old = view_of c.args.front.now.seat in
    let now = view_of c.pieces.front.seat in
    let takes = c.in-Fault.ensures.reads.takes in
    answers-apart end.ReadFault old.number (sight_in old) (sight_in now) _ _ _ _ _ _ refl c.in-Fault.ensures.written
    (fault-ends old.number (sight_in old) (sight_in now) _ _ _ _ _ _ takes.0 c.pieces.invariant.serving c.pieces.invariant.none takes.1
    takes.2.1)

pub returns-in-Limit-clause-answers : goal.returns-in-Limit-clause-answers
returns-in-Limit-clause-answers g c =
    let old = view_of c.args.front.now.seat in
    let now = view_of c.pieces.front.seat in
    let takes = c.in-Limit.ensures.reads.takes in
    answers-apart end.Limit old.number (sight_in old) (sight_in now) _ _ _ _ _ _ refl c.in-Limit.ensures.written
    (limit-ends old.number (sight_in old) (sight_in now) _ _ _ _ _ _ takes.0 c.pieces.invariant.serving c.pieces.invariant.none takes.1
    takes.2.1 takes.2.2)

pub returns-in-NoMemory-clause-answers : goal.returns-in-NoMemory-clause-answers
returns-in-NoMemory-clause-answers g c =
    let old = view_of c.args.front.now.seat in
    let now = view_of c.pieces.front.seat in
    let takes = c.in-NoMemory.ensures.reads.takes in
    answers-apart end.Memory old.number (sight_in old) (sight_in now) _ _ _ _ _ _ refl c.in-NoMemory.ensures.written
    (unfed-ends old.number (sight_in old) (sight_in now) _ _ _ _ _ _ takes.0 c.pieces.invariant.serving takes.1 takes.2.1
    (c.in-NoMemory.ensures.reads.end ∙ c.pieces.invariant.ended) (c.in-NoMemory.ensures.reads.faults ∙ c.pieces.invariant.unread))

-- The input has ended.

pub returns-in-Ok-reply_link-clause-seat : goal.returns-in-Ok-reply_link-clause-seat
returns-in-Ok-reply_link-clause-seat g c = record {
  ready = c.in-Ok-reply_link.ensures.seat.ready;
  same =
      same-then c.args.front.now.seat c.pieces.front.seat c.reply_link-2.new.front.seat c.pieces.invariant.same
      c.in-Ok-reply_link.ensures.seat.same;
  rest = search rules;
}

pub returns-in-Ok-reply_link-clause-answers : goal.returns-in-Ok-reply_link-clause-answers
returns-in-Ok-reply_link-clause-answers g c =
    let old = view_of c.args.front.now.seat in
    let now = view_of c.pieces.front.seat in
    let new = view_of c.reply_link-2.new.front.seat in
    let takes = c.in-Ended.ensures.reads.takes in
    let read = serving-apart _ _ _ _ _ _ _ _ _ _ refl (ap (λ (side : WritingSide). side.taken) c.in-Ended.ensures.written)
    c.pieces.invariant.serving in
    let last = rw (c.finish.ensures, takes.2.0) at c.in-Ok-reply_link.ensures.replies.0 in
    let reads = reads-by c.args.front.now.seat c.pieces.front.seat _ _ _ _ _ _ _ c.pieces.invariant.same last in
    answers-apart end.Done old.number (sight_in old) (sight_in new) _ _ _ _ _ _ c.in-Ok-reply_link.ensures.read refl
    (done-ends old.number (sight_in old) (sight_in now) (sight_in new) _ c.reply_link-2.new.reader _ _ _ _ _ _ takes.0 read takes.1
    takes.2.1 c.in-Ended.ensures.reads.end reads (c.in-Ok-reply_link.ensures.seat.rest refl).due.pending)

pub returns-in-Ok-reply_link-clause-made : goal.returns-in-Ok-reply_link-clause-made
returns-in-Ok-reply_link-clause-made g c =
    let reads = reads-by c.args.front.now.seat c.pieces.front.seat _ _ _ _ _ _ _ c.pieces.invariant.same
    c.in-Ok-reply_link.ensures.replies.0 in
    reads.on.goes.waits.made

pub returns-in-Err-reply_link-clause-seat : goal.returns-in-Err-reply_link-clause-seat
returns-in-Err-reply_link-clause-seat g c = record {
  ready = c.in-Err-reply_link.ensures.seat.ready;
  same =
      same-then c.args.front.now.seat c.pieces.front.seat c.reply_link-2.new.front.seat c.pieces.invariant.same
      c.in-Err-reply_link.ensures.seat.same;
  rest = search rules;
}

pub returns-in-Err-reply_link-clause-answers : goal.returns-in-Err-reply_link-clause-answers
returns-in-Err-reply_link-clause-answers g c =
    let old = view_of c.args.front.now.seat in
    let now = view_of c.pieces.front.seat in
    let new = view_of c.reply_link-2.new.front.seat in
    let takes = c.in-Ended.ensures.reads.takes in
    let read = serving-apart _ _ _ _ _ _ _ _ _ _ refl (ap (λ (side : WritingSide). side.taken) c.in-Ended.ensures.written)
    c.pieces.invariant.serving in
    let last = rw (c.finish.ensures, takes.2.0) at c.in-Err-reply_link.ensures.replies.0 in
    let reads = reads-by c.args.front.now.seat c.pieces.front.seat _ _ _ _ _ _ _ c.pieces.invariant.same last in
    rw c.end_of_halt-in-Err-reply_link.ensures
    (answers-apart (end_of_halt c.in-Err-reply_link.halt) old.number (sight_in old) (sight_in new) _ _ _ _ _ _
    c.in-Err-reply_link.ensures.read refl
    (ended-ends c.in-Err-reply_link.halt old.number (sight_in old) (sight_in now) (sight_in new) _ _ _ _ _ _ _ _ takes.0 read takes.1
    takes.2.1 c.in-Ended.ensures.reads.end.0 reads))

pub returns-in-Err-reply_link-clause-made : goal.returns-in-Err-reply_link-clause-made
returns-in-Err-reply_link-clause-made g c =
    let reads = reads-by c.args.front.now.seat c.pieces.front.seat _ _ _ _ _ _ _ c.pieces.invariant.same
    c.in-Err-reply_link.ensures.replies.0 in
    reads.on.goes.waits.made
