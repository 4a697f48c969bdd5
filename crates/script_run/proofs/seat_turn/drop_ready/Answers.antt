-- Each reply that may be taken is taken, and where none may be nothing has changed since.
use Rattle.script_run.proofs.Words.{ap, refl, state_of}
use Rattle.script_run.proofs.FrontOpenLemmas.{taken-less}
use Rattle.script_run.proofs.SeatLetLemmas.{dropped, dropped-idle, drops, starts-dropping}
use Rattle.script_run.proofs.SeatTurnLemmas.{all-loans-same, all-loans-then}
use Rattle.script_run.proofs.seat_turn.drop_ready.Goals as goal

pub replies-init : goal.replies-init
replies-init c = record {
  dropping = starts-dropping c.args.seat (state_of c.args.core.now) c.every_core_is_sound.ensures;
  loans = λ seat. refl;
}

pub replies-smaller : goal.replies-smaller
replies-smaller c =
    taken-less c.args.seat (state_of c.replies.core) (state_of c.take_reply.new.self) _ c.in-Some.ensures.ready
    (c.in-Some.ensures.taken refl)

pub replies-preserved : goal.replies-preserved
replies-preserved c = record {
  dropping = drops c.args.seat (state_of c.args.core.now) (state_of c.replies.core) (state_of c.take_reply.new.self) _
      c.replies.invariant.dropping c.in-Some.ensures.ready (c.in-Some.ensures.taken refl) c.in-Some.ensures.sound;
  loans = all-loans-then c.args.core.now c.replies.core c.take_reply.new.self c.replies.invariant.loans
      (c.what_is_beside_stays_lent.ensures c.replies.core c.take_reply.new.self c.in-Some.ensures.beside);
}

pub returns-clause-keeps : goal.returns-clause-keeps
returns-clause-keeps c =
    let none = c.in_default.ensures.none refl in
    let all = dropped c.args.seat (state_of c.args.core.now) (state_of c.replies.core) (state_of c.take_reply.new.self)
    c.replies.invariant.dropping (ap state_of none) in
    record {
      mindful = all.mindful;
      hand = all.hand;
      loans = all-loans-then c.args.core.now c.replies.core c.take_reply.new.self c.replies.invariant.loans
          (all-loans-same c.replies.core c.take_reply.new.self none);
    }

pub returns-clause-lets_go : goal.returns-clause-lets_go
returns-clause-lets_go c =
    (dropped c.args.seat (state_of c.args.core.now) (state_of c.replies.core) (state_of c.take_reply.new.self)
    c.replies.invariant.dropping
    (ap state_of (c.in_default.ensures.none refl))).lets

pub returns-clause-all : goal.returns-clause-all
returns-clause-all c =
    dropped-idle c.a_reply_that_may_be_taken_is_right.ensures.waits c.args.seat (state_of c.args.core.now) (state_of c.replies.core)
    (state_of c.take_reply.new.self) c.replies.invariant.dropping (ap state_of (c.in_default.ensures.none refl)) c.in_default.ensures.ready
