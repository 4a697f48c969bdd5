use denote.Exit.{yes}
use denote.Param.Send.{param_send, arg_send}
use Rattle.event_core.proofs.CrossingLemmas.{core_send}
use Rattle.event_core.proofs.crossing.cores_may_be_sent.Goals as goal

-- src/crossing.rt:6:5
pub is_sent-requires-send-T : goal.is_sent-requires-send-T
is_sent-requires-send-T c κs = param_send 0 _ (arg_send _ yes _ core_send)
