-- A board over a core may be sent and shared, since a core may be sent.
use denote.Exit.{yes}
use denote.Param.Send.{param_send, param_sync, arg_send, arg_sync}
use Rattle.board_lock.proofs.seat.BoardLock.TheSendSync as boards
use Rattle.event_core.proofs.CrossingLemmas.{core_send}
use Rattle.worker_gate.proofs.crossing.boards_of_cores_may_be_shared.Goals as goal

pub is_sent-requires-send-T : goal.is_sent-requires-send-T
is_sent-requires-send-T c κs = param_send 0 _ (arg_send _ yes _ (boards.the_send _ _ core_send))

pub is_shared-requires-sync-T : goal.is_shared-requires-sync-T
is_shared-requires-sync-T c κs = param_sync 0 _ (arg_sync _ yes _ (boards.the_sync _ _ core_send))
