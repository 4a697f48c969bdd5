-- Each worker's seat may take turns, and is still that of a worker behind its work. A board of cores may be shared, and its seats sent.
use denote.Exit.{no}
use denote.Param.Send.{arg_send, param_send}
use Rattle.std.proofs.Common.{get_or}
use Rattle.board_lock.proofs.seat.BoardLock.TheSendSync as boards
use Rattle.board_lock.proofs.seat.BoardSeat.TheSendSync as seats
use Rattle.event_core.proofs.CrossingLemmas.{core_send}
use Rattle.script_run.proofs.BoardSeatLemmas.{worked-as, workers-worked}
use Rattle.script_run.proofs.board_seats.work_beside.Goals as goal

pub each_beside-requires-send-T : goal.each_beside-requires-send-T
each_beside-requires-send-T g c κs within = param_send _ _ (arg_send _ no _ (seats.the_send _ core_send))

-- the closure has three references, each to what may be shared
pub each_beside-requires-sync-E : goal.each_beside-requires-sync-E
each_beside-requires-sync-E g c κs within = record {
  shared = λ x b o κ. (
    (
      ((λ q. tt), c.type_bounds.sync-R.shared x.0.now x.0.ref_ptr.0 x.0.ref_ptr.1 _),
      (
        ((λ q. tt), (boards.the_sync _ _ core_send).shared x.1.now x.1.ref_ptr.0 x.1.ref_ptr.1 _),
        (((λ q. tt), c.type_bounds.sync-G.shared x.2.now x.2.ref_ptr.0 x.2.ref_ptr.1 _), tt),
      ),
    ),
    λ q. tt,
  );
}

pub returns-clause-workers : goal.returns-clause-workers
returns-clause-workers g c =
    workers-worked c.args.board.now c.args.seats.now c.each_beside.new.members c.each_beside.auto.members
    (λ place other low.
    let at = (c.each_beside.ensures.each place other low).1 in
    worked-as c.args.board.now (get_or c.args.seats.now place other) (get_or c.each_beside.new.members place other) at.argument.now
    at.after_call.now at.argument_is at.left at.call)
    c.requires.workers
