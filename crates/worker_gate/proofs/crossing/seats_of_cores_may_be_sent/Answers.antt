-- A seat over a core may be sent, since a core may.
use denote.Exit.{yes}
use denote.Param.Send.{param_send, arg_send}
use Rattle.board_lock.proofs.seat.BoardSeat.TheSendSync as seats
use Rattle.event_core.proofs.CrossingLemmas.{core_send}
use Rattle.worker_gate.proofs.crossing.seats_of_cores_may_be_sent.Goals as goal

pub is_sent-requires-send-T : goal.is_sent-requires-send-T
is_sent-requires-send-T c κs = param_send 0 _ (arg_send _ yes _ (seats.the_send _ core_send))
