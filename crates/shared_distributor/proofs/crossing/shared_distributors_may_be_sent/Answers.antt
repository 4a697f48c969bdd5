use denote.Exit.{yes}
use denote.Param.Send.{param_send, arg_send}
use Rattle.shared_distributor.proofs.CrossingLemmas.{shared_send}
use Rattle.shared_distributor.proofs.crossing.shared_distributors_may_be_sent.Goals as goal

pub is_sent-requires-send-T : goal.is_sent-requires-send-T
is_sent-requires-send-T c κs = param_send 0 _ (arg_send _ yes _ shared_send)
