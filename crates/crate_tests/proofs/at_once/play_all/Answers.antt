-- A front may be sent, and a board of cores may be shared.
use denote.Exit.{no}
use denote.Param.Send.{arg_send, param_send}
use Rattle.std.proofs.sync.atomic.AtomicU64.TheSendSync as counts
use Rattle.board_lock.proofs.seat.BoardLock.TheSendSync as boards
use Rattle.event_core.proofs.CrossingLemmas.{core_send}
use Rattle.script_run.proofs.CrossingLemmas.{front_send}
use Rattle.crate_tests.proofs.at_once.play_all.Goals as goal

pub for_each_mut-requires-send-T : goal.for_each_mut-requires-send-T
for_each_mut-requires-send-T g c κs within = param_send _ _ (arg_send _ no _ front_send)

-- the closure has three references, each to what may be shared
pub for_each_mut-requires-sync-F : goal.for_each_mut-requires-sync-F
for_each_mut-requires-sync-F g c κs within = record {
  shared = λ x b o κ. (
    (
      ((λ q. tt), c.type_bounds.sync-R.shared x.0.now x.0.ref_ptr.0 x.0.ref_ptr.1 _),
      (
        ((λ q. tt), (boards.the_sync _ _ core_send).shared x.1.now x.1.ref_ptr.0 x.1.ref_ptr.1 _),
        (((λ q. tt), counts.the_sync.shared x.2.now x.2.ref_ptr.0 x.2.ref_ptr.1 _), tt),
      ),
    ),
    λ q. tt,
  );
}
