-- One seat more for the next worker.
use Rattle.std.proofs.Common.{◌+◌, ap, arith, length, subst, sym, ◌∙◌}
use Rattle.std.proofs.lemmas.List.{length_push}
use Rattle.board_lock.specs.Seats.{view_of}
use Rattle.script_run.specs.BoardRun.{AreWorkers, IsWorker}
use Rattle.script_run.proofs.BoardSeatLemmas.{knows-same, knows-split, knows-then, leader-split, seated-high, worker-made, workers-pushed}
use Rattle.script_run.proofs.board_seats.make_seats.Goals as goal

pub splits-init : goal.splits-init
splits-init c = record {
  leader = c.requires.leader;
  knows = knows-same (view_of c.args.first.now);
  workers = λ place other low. absurd (let none = ap length c.in_ok-seats.ensures.items in omega arith);
  count = ap length c.in_ok-seats.ensures.items;
  len = c.in_ok-seats.ensures.len;
  room = c.in_ok-seats.ensures.capacity;
}

pub split-seat-requires : goal.split-seat-requires
split-seat-requires c = record {
  own = c.splits.invariant.leader.own;
  first = c.splits.invariant.leader.first;
  room = let made = c.splits.invariant.leader.made in let few = c.requires.room.room in omega arith;
}

pub push_reserved-requires : goal.push_reserved-requires
push_reserved-requires c = let len = c.splits.invariant.len in let room = c.splits.invariant.room in omega arith

pub splits-preserved : goal.splits-preserved
splits-preserved c =
    let long = c.splits.invariant.count in
    record {
      leader = leader-split c.args.board.now c.splits.counter c.splits.first c.split-seat.new.seat c.splits.invariant.leader
          c.split-seat.ensures.seat.same (c.split-seat.ensures.seat.outside c.splits.invariant.leader.outside) c.split-seat.ensures.seat.made;
      knows = knows-then (view_of c.args.first.now) (view_of c.splits.first) (view_of c.split-seat.new.seat) c.splits.invariant.knows
          (knows-split (view_of c.splits.first) (view_of c.split-seat.new.seat) c.split-seat.ensures.seat.made);
      workers = subst (AreWorkers c.args.board.now) (sym c.push_reserved.ensures.items)
          (workers-pushed c.args.board.now c.splits.seats.items c.split-seat.result c.splits.invariant.workers
          (subst (λ n. IsWorker c.args.board.now (n + 1) c.split-seat.result) (sym long)
          (worker-made c.args.board.now c.splits.counter c.splits.first c.split-seat.result c.splits.invariant.leader
          (seated-high (view_of c.args.first.now) (view_of c.splits.first) (c.splits.counter + 1) c.args.count c.splits.invariant.knows
          (omega arith) c.requires.room.seated)
          c.split-seat.ensures.new.0 c.split-seat.ensures.new.1 c.split-seat.ensures.new.2 c.split-seat.ensures.empty.last)));
      count = ap length c.push_reserved.ensures.items ∙ length_push c.splits.seats.items c.split-seat.result ∙ ap (λ n. n + 1) long;
      len = c.push_reserved.ensures.len ∙ ap (λ n. n + 1) c.splits.invariant.len;
      room = let room = c.splits.invariant.room in let same = c.push_reserved.ensures.capacity in omega arith;
    }

pub returns-in_err-seats-clause-knows : goal.returns-in_err-seats-clause-knows
returns-in_err-seats-clause-knows c = knows-same (view_of c.args.first.now)
