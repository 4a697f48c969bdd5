-- The last seat of the list is joined next.
use Rattle.std.proofs.Common.{◌+◌, ◌≡◌, ap, length, subst, sym, ◌∙◌}
use Rattle.std.proofs.lemmas.List.{length_push}
use Rattle.board_lock.specs.Seats.{view_of}
use Rattle.script_run.specs.BoardRun.{HasJoined}
use Rattle.script_run.proofs.BoardSeatLemmas.{joined-more, joined-none, workers-popped}
use Rattle.script_run.proofs.board_seats.join_all.Goals as goal

pub joins-init : goal.joins-init
joins-init c = record {
  workers = c.requires.workers;
  joined = joined-none c.args.board.now (length c.args.seats.now.items) c.args.first.now c.requires.leader;
}

pub join-requires : goal.join-requires
join-requires c =
    let popped = workers-popped c.args.board.now c.joins.seats.items c.pop.new.self.items c.in-Some.seat c.in-Some.ensures.items
    c.joins.invariant.workers in
    record {
      own = (c.joins.invariant.joined.own, popped.1.ready.own);
      first = c.joins.invariant.joined.first;
      outside = (c.joins.invariant.joined.outside, popped.1.ready.outside);
    }

pub joins-preserved : goal.joins-preserved
joins-preserved c =
    let popped = workers-popped c.args.board.now c.joins.seats.items c.pop.new.self.items c.in-Some.seat c.in-Some.ensures.items
    c.joins.invariant.workers in
    let long : length c.joins.seats.items ≡ length c.pop.new.self.items + 1 =
    ap length c.in-Some.ensures.items ∙ length_push c.pop.new.self.items c.in-Some.seat in
    record {
      workers = popped.0;
      joined = joined-more c.args.board.now (length c.args.seats.now.items) (length c.pop.new.self.items) (view_of c.args.first.now)
          c.joins.first c.join.new.seat c.in-Some.seat
          (subst (λ n. HasJoined c.args.board.now (length c.args.seats.now.items) n (view_of c.args.first.now) c.joins.first) long
          c.joins.invariant.joined)
          popped.1 c.join.ensures.same.0 c.join.ensures.same.1 c.join.ensures.joined c.join.ensures.seen.mine;
    }

pub returns : goal.returns
returns c =
    let none : length c.joins.seats.items ≡ 0 = sym c.joins.seats.ok.0 ∙ c.in_default.ensures.cases.0 in
    subst (λ n. HasJoined c.args.board.now (length c.args.seats.now.items) n (view_of c.args.first.now) c.joins.first) none
    c.joins.invariant.joined
