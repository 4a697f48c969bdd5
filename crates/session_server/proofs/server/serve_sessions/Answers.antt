-- What the second of the two calls left: the own seat, and the door.
use Rattle.std.proofs.Common.{None, rules, subst}
use Rattle.worker_gate.specs.Turns.{IsReady}
use Rattle.session_server.proofs.DoorLemmas.{served-by}
use Rattle.session_server.proofs.server.serve_sessions.Goals as goal

pub close-requires : goal.close-requires
close-requires g c = subst (IsReady c.args.board.now None) (search rules) c.serve_beside-end.ensures.1.met.1.0.ready

pub returns : goal.returns
returns g c =
    served-by g.D.Door.accepting c.args.reception.now.accept c.serve_beside-end.result c.args.door.now _ _ (search rules)
    c.serve_beside-end.ensures.1.met.1.1
