-- One front more for the next session.
use Rattle.std.proofs.Common.{◌+◌, ap, arith, length, refl, subst, sym, ◌∙◌}
use Rattle.std.proofs.lemmas.List.{length_push}
use Rattle.board_lock.specs.Seats.{view_of}
use Rattle.script_run.specs.Home.{IsAtRest}
use Rattle.script_run.proofs.BoardSeatLemmas.{knows-new, knows-same, knows-split, knows-then, leader-as, leader-split}
use Rattle.session_server.specs.Server.{AreAtRest}
use Rattle.session_server.proofs.ServerLemmas.{fronts-pushed, leader-rests, seat-rests}
use Rattle.session_server.proofs.seats.make_fronts.Goals as goal

pub splits-init : goal.splits-init
splits-init c = record {
  leader = leader-as c.args.board.now c.args.settings.workers (0 + c.args.settings.workers) c.args.first.now c.args.first.now (omega arith)
      refl c.requires.leader;
  knows = knows-same (view_of c.args.first.now);
  fronts = λ place other low. absurd (let none = ap length c.in_ok-fronts.ensures.items in omega arith);
  count = ap length c.in_ok-fronts.ensures.items;
  len = c.in_ok-fronts.ensures.len;
  room = c.in_ok-fronts.ensures.capacity;
}

pub split-seat-requires : goal.split-seat-requires
split-seat-requires c = record {
  own = c.splits.invariant.leader.own;
  first = c.splits.invariant.leader.first;
  room = let made = c.splits.invariant.leader.made in let most = c.requires.left.most in let all = c.requires.left.count in omega arith;
}

pub push_reserved-requires : goal.push_reserved-requires
push_reserved-requires c = let len = c.splits.invariant.len in let room = c.splits.invariant.room in omega arith

pub splits-preserved : goal.splits-preserved
splits-preserved c =
    let long = c.splits.invariant.count in
    let others = c.splits.counter + c.args.settings.workers in
    let knows = knows-new c.args.settings (view_of c.args.first.now) (view_of c.splits.first) c.splits.invariant.knows c.requires.knows in
    record {
      leader = leader-as c.args.board.now (others + 1) ((c.splits.counter + 1) + c.args.settings.workers) c.split-seat.new.seat
          c.split-seat.new.seat (omega arith) refl
          (leader-split c.args.board.now others c.splits.first c.split-seat.new.seat c.splits.invariant.leader c.split-seat.ensures.seat.same
          (c.split-seat.ensures.seat.outside c.splits.invariant.leader.outside) c.split-seat.ensures.seat.made);
      knows = knows-then (view_of c.args.first.now) (view_of c.splits.first) (view_of c.split-seat.new.seat) c.splits.invariant.knows
          (knows-split (view_of c.splits.first) (view_of c.split-seat.new.seat) c.split-seat.ensures.seat.made);
      fronts = subst (AreAtRest c.args.board.now) (sym c.push_reserved.ensures.items)
          (fronts-pushed c.args.board.now c.splits.fronts.items c.new-front.result c.splits.invariant.fronts
          (subst (IsAtRest c.args.board.now) (sym c.new-front.ensures.seat)
          (seat-rests c.args.settings c.args.board.now others c.splits.first c.split-seat.result c.splits.invariant.leader knows
          (let all = c.requires.left.count in omega arith)
          c.split-seat.ensures.new.0 c.split-seat.ensures.new.1 c.split-seat.ensures.new.2 c.split-seat.ensures.empty.last)));
      count = ap length c.push_reserved.ensures.items ∙ length_push c.splits.fronts.items c.new-front.result ∙ ap (λ n. n + 1) long;
      len = c.push_reserved.ensures.len ∙ ap (λ n. n + 1) c.splits.invariant.len;
      room = let room = c.splits.invariant.room in let same = c.push_reserved.ensures.capacity in omega arith;
    }

pub returns-clause-own : goal.returns-clause-own
returns-clause-own c =
    leader-rests c.args.settings c.args.board.now _ c.splits.first c.splits.invariant.leader
    (knows-new c.args.settings (view_of c.args.first.now) (view_of c.splits.first) c.splits.invariant.knows c.requires.knows)
    (let all = c.requires.left.count in omega arith)
