-- What the front of the workers left of the door.
use Rattle.std.proofs.Common.{rules}
use Rattle.session_server.proofs.DoorLemmas.{served-by}
use Rattle.session_server.proofs.server.serve_door.Goals as goal

pub returns : goal.returns
returns g c =
    served-by g.D.Door.accepting c.args.accept c.work_beside-end.result c.args.door.now _ _ (search rules) c.work_beside-end.ensures.front.met.1
