-- What the closure of a thread takes along may be sent: references to what may be shared, and a front.
use denote.Param.Send.{sendable}
use Rattle.std.proofs.Crossing.{crosses}
use Rattle.std.proofs.Crossing as heap
use Rattle.board_lock.proofs.seat.BoardLock.TheSendSync as boards
use Rattle.event_core.proofs.CrossingLemmas.{core_send}
use Rattle.script_run.proofs.CrossingLemmas.{front_send}
use Rattle.session_server.proofs.hand_over.Connections.TheSendSync as connections
use Rattle.session_server.proofs.seats.fn.serve_beside.scope.Goals as goal

pub spawn-requires-send-F : goal.spawn-requires-send-F
spawn-requires-send-F g c κs within =
    let shared = c.requires.0 in
    search (sendable, crosses, shared, boards.the_sync, core_send, connections.the_sync, heap.frees, front_send) depth 20
