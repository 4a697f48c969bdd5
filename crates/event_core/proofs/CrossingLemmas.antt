-- That a core may be sent to another thread: each of its parts may. Of most parts the crates that declare them have it, as `the_send`.
use denote.Builtin.{u8, u64, usize}
use denote.Param.Send.{IsSend, view_send, sendable}
use denote.Param.SendFields.{declared_send}
use Rattle.std.proofs.Crossing.{crosses}
use Rattle.std.proofs.alloc.Global.TheSendSync as heap
use Rattle.star_values.proofs.list_of.ListOf.TheSendSync as list
use Rattle.continuous_scan.proofs.CrossingLemmas.{scan_send}
use Rattle.star_values.proofs.CrossingLemmas.{trail_send}
use Rattle.core_parts.proofs.CrossingLemmas.{flights_send, queries_send, seat_send}
use Rattle.star_store.proofs.tables.Tables.TheSendSync as tables
use Rattle.event_core.proofs.logged.Logged.TheSendSync as logged
use Rattle.event_core.proofs.marks.Marks.TheSendSync as marks
use Rattle.pipeline_manager.proofs.life.QueryLife.TheSendSync as life
use Rattle.pipeline_manager.proofs.life.SlotState.TheSendSync as slot_state
use Rattle.pipeline_manager.proofs.number_set.NumberSet.TheSendSync as number_set
use Rattle.pipeline_manager.specs.contracts.old_lives.OldLives as old_lives
use Rattle.pipeline_manager.specs.contracts.old_lives.OldLives.TheInside as inside_old_lives
use Rattle.pipeline_manager.specs.contracts.query_lives.QueryLives as query_lives
use Rattle.pipeline_manager.specs.contracts.query_lives.QueryLives.TheInside as inside_query_lives
use Rattle.pipeline_manager.specs.contracts.manager.Manager as manager
use Rattle.pipeline_manager.specs.contracts.manager.Manager.TheInside as inside_manager
use Rattle.filter_order.proofs.filters.Filters.TheSendSync as filters
use Rattle.filter_order.proofs.spares.Spares.TheSendSync as spares
use Rattle.shared_distributor.proofs.CrossingLemmas.{shared_send}
use Rattle.frame_pool.proofs.pool.Pool.TheSendSync as pool
use Rattle.event_core.specs.contracts.machine.Core as core
use Rattle.event_core.specs.contracts.machine.Core.TheInside as inside_core

-- the lives that are over may be sent
old_lives_send : IsSend old_lives.the_row
old_lives_send =
    let fields = declared_send inside_old_lives.the_type (trail_send _ life.the_send, (number_set.the_send, (number_set.the_send, tt))) in
    view_send inside_old_lives.the_row _ _ _ _ fields

-- and all lives
query_lives_send : IsSend query_lives.the_row
query_lives_send =
    let place : IsSend usize = search sendable in
    let fields = declared_send inside_query_lives.the_type (heap.the_send, (old_lives_send, (list.the_send _ life.the_send, (place, (place, tt))))) in
    view_send inside_query_lives.the_row _ _ _ _ fields

-- a manager of lives and slots may be sent
manager_send : IsSend manager.the_row
manager_send =
    let set : IsSend u8 = search sendable in
    let place : IsSend usize = search sendable in
    let fields = declared_send inside_manager.the_type (query_lives_send, (list.the_send _ slot_state.the_send, (set, (place, tt)))) in
    view_send inside_manager.the_row _ _ _ _ fields

-- two facts as one
both : {A B : Type 0} → A → B → A × B
both one other = (one, other)

-- a core may be sent: its fields are named from the last to the first
pub core_send : IsSend core.the_row
core_send =
    let number : IsSend u64 = search sendable in
    let numbers = both number (both number (both number (both number (both marks.the_send tt)))) in
    let moving = both shared_send (both flights_send (both pool.the_send numbers)) in
    let running = both manager_send (both filters.the_send (both spares.the_send (both scan_send moving))) in
    let asking = both (trail_send _ logged.the_send) (both (list.the_send _ seat_send) (both queries_send running)) in
    let fields = declared_send inside_core.the_type (heap.the_send, (search sendable depth 8, (search (sendable, crosses) depth 20, (tables.the_send, asking)))) in
    view_send inside_core.the_row _ _ _ _ fields
