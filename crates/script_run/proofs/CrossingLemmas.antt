-- That a front of a board may be sent to another thread: each of its parts may.
use denote.Param.Send.{IsSend}
use denote.Param.SendFields.{declared_send}
use Rattle.std.proofs.alloc.Global.TheSendSync as heap
use Rattle.board_lock.proofs.seat.BoardSeat.TheSendSync as seats
use Rattle.event_core.proofs.CrossingLemmas.{core_send}
use Rattle.script_run.proofs.pace.Pace.TheSendSync as pace
use Rattle.script_run.specs.contracts.seat_front.SeatFront as front

pub front_send : IsSend front.the_row
front_send = declared_send front.the_type (heap.the_send, (seats.the_send _ core_send, (pace.the_send, tt)))
