-- That a shared distributor may be sent to another thread, with what its seats have.
use denote.Param.Send.{IsSend, view_send, sendable}
use denote.Param.SendFields.{declared_send, variants_send}
use Rattle.std.proofs.Crossing.{crosses}
use Rattle.std.proofs.alloc.Global.TheSendSync as heap
use Rattle.bit_words.proofs.bits.Bits.TheSendSync as bits
use Rattle.star_values.proofs.list_of.ListOf.TheSendSync as list
use Rattle.distributor.proofs.distributor.Distributor.TheSendSync as distributor
use Rattle.shared_distributor.specs.contracts.seats.LentGroups as lent
use Rattle.shared_distributor.specs.contracts.seats.SeatGroups as seat
use Rattle.shared_distributor.specs.contracts.shared.SharedDistributor as shared
use Rattle.shared_distributor.specs.contracts.shared.SharedDistributor.TheInside as inside_shared

-- what is known of groups that are out
lent_send : IsSend lent.the_row
lent_send =
    declared_send lent.the_type (
      search (sendable, bits.the_send) depth 10,
      (search (sendable, crosses) depth 10, (search (sendable, crosses) depth 10, tt)),
    )

-- what a seat has
seat_send : IsSend seat.the_row
seat_send = variants_send seat.enum (tt, ((distributor.the_send, tt), ((lent_send, tt), tt)))

-- and all of it
pub shared_send : IsSend shared.the_row
shared_send =
    let fields = declared_send inside_shared.the_type (
      heap.the_send,
      (search sendable depth 8, (distributor.the_send, (list.the_send _ seat_send, tt))),
    ) in
    view_send inside_shared.the_row _ _ _ _ fields
