-- That a scan, and a batch whose rows are not written yet, may be sent to another thread: each part may. Of most parts the crates that declare them have it, as `the_send`.
use denote.RattleType.{RattleType}
use denote.Builtin.{u32, u64}
use denote.Param.Send.{IsSend, IsSync, view_send, view_sync, sendable}
use denote.Param.SendFields.{declared_send, declared_sync, variants_send, as_row_send, as_row_sync}
use Rattle.std.proofs.Crossing.{crosses, Arc-send, Arc-sync}
use Rattle.std.proofs.alloc.Global.TheSendSync as heap
use Rattle.std.specs.contracts.option.Option as option
use Rattle.star_values.proofs.value.Value.TheSendSync as value
use Rattle.star_values.proofs.literal_list.LiteralList.TheSendSync as literals
use Rattle.star_values.proofs.list_of.ListOf.TheSendSync as list
use Rattle.star_plan.specs.contracts.predicate.Predicate as predicate
use Rattle.star_plan.proofs.predicate.Predicate.TheLaws.TheKnot as predicates
use Rattle.star_plan.proofs.predicate.How.TheSendSync as how
use Rattle.star_plan.specs.contracts.choice.Choice as choice
use Rattle.star_plan.proofs.place.Place.TheSendSync as place
use Rattle.star_plan.proofs.item.Item.TheSendSync as item
use Rattle.star_plan.specs.contracts.star_query.StarQuery as query
use Rattle.continuous_scan.specs.contracts.runner.Runner as runner
use Rattle.continuous_scan.specs.contracts.runner.Runner.TheInside as inside_runner
use Rattle.continuous_scan.specs.contracts.slots.Slots as slots
use Rattle.continuous_scan.specs.contracts.slots.Slots.TheInside as inside_slots
use Rattle.frame_pool.proofs.frame.Frame.TheSendSync as frame
use Rattle.continuous_scan.specs.contracts.conditions.Conditions as kept
use Rattle.continuous_scan.proofs.conditions.Conditions.TheSendSync as conditions
use Rattle.continuous_scan.specs.contracts.shared.SharedQueries as shared
use Rattle.continuous_scan.specs.contracts.shared.SharedQueries.TheInside as inside_shared
use Rattle.continuous_scan.specs.contracts.blank.Blank as blank
use Rattle.continuous_scan.specs.contracts.blank.Blank.TheInside as inside_blank
use Rattle.continuous_scan.specs.contracts.blank.Blanked as blanked
use Rattle.continuous_scan.specs.contracts.scan.Scan as scan
use Rattle.continuous_scan.specs.contracts.scan.Scan.TheInside as inside_scan

-- an option may be sent where its member may
pub option_send : (T : RattleType) → IsSend T → IsSend (option.the_row T)
option_send T sent = search sendable depth 12

-- and shared where its member may
option_sync : (T : RattleType) → IsSync T → IsSync (option.the_row T)
option_sync T shared = search sendable depth 12

-- a predicate may be sent, as a field of another type
predicate_send : IsSend predicate.the_field.row
predicate_send = search (sendable, crosses, predicates.crosses, how.the_field_send, value.the_field_send, literals.the_send) depth 20

-- and shared
predicate_sync : IsSync predicate.the_field.row
predicate_sync = search (sendable, crosses, predicates.crosses, how.the_field_sync, value.the_field_sync, literals.the_sync) depth 20

-- what a query asks of a dimension may be sent
choice_send : IsSend choice.the_row
choice_send = search (sendable, predicate_send) depth 10

-- and shared
choice_sync : IsSync choice.the_row
choice_sync = search (sendable, predicate_sync) depth 10

-- a query may be sent
pub query_send : IsSend query.the_row
query_send =
    let fact = option_send predicate.the_row (as_row_send predicate.the_field predicate_send) in
    declared_send query.the_type (fact, (list.the_send choice.the_row choice_send, (list.the_send _ place.the_send, (list.the_send _ item.the_send, tt))))

-- and shared, by all that hold it
pub query_sync : IsSync query.the_row
query_sync =
    let fact = option_sync predicate.the_row (as_row_sync predicate.the_field predicate_sync) in
    declared_sync query.the_type (fact, (list.the_sync choice.the_row choice_sync, (list.the_sync _ place.the_sync, (list.the_sync _ item.the_sync, tt))))

-- a query that is given rows
runner_send : IsSend runner.the_row
runner_send =
    let query = Arc-send query.the_row query_send query_sync in
    let number : IsSend u32 = search sendable in
    let fields = declared_send inside_runner.the_type (query, (search sendable, (number, (number, (number, tt))))) in
    view_send inside_runner.the_row _ _ _ _ fields

-- and shared
runner_sync : IsSync runner.the_row
runner_sync =
    let query = Arc-sync query.the_row query_send query_sync in
    let number : IsSync u32 = search sendable in
    let fields = declared_sync inside_runner.the_type (query, (search sendable, (number, (number, (number, tt))))) in
    view_sync inside_runner.the_row _ _ _ _ fields

-- the slots of the scan, with those that run in them
slots_send : IsSend slots.the_row
slots_send =
    let running = list.the_send (option.the_row runner.the_row) (option_send runner.the_row runner_send) in
    view_send inside_slots.the_row _ _ _ _ (declared_send inside_slots.the_type (running, (search sendable, tt)))

-- and shared
slots_sync : IsSync slots.the_row
slots_sync =
    let running = list.the_sync (option.the_row runner.the_row) (option_sync runner.the_row runner_sync) in
    view_sync inside_slots.the_row _ _ _ _ (declared_sync inside_slots.the_type (running, (search sendable, tt)))

-- what stamping reads of the queries that run
shared_send : IsSend shared.the_row
shared_send =
    let conditions = Arc-send kept.the_row conditions.the_send conditions.the_sync in
    view_send inside_shared.the_row _ _ _ _ (declared_send inside_shared.the_type (slots_send, (conditions, (search sendable, tt))))

-- and shared
shared_sync : IsSync shared.the_row
shared_sync =
    let conditions = Arc-sync kept.the_row conditions.the_send conditions.the_sync in
    view_sync inside_shared.the_row _ _ _ _ (declared_sync inside_shared.the_type (slots_sync, (conditions, (search sendable, tt))))

-- the scan, with what is kept of the conditions of queries
pub scan_send : IsSend scan.the_row
scan_send =
    let queries = option_send _ (Arc-send shared.the_row shared_send shared_sync) in
    let number : IsSend u32 = search sendable in
    let fields = declared_send inside_scan.the_type (heap.the_send, (number, (slots_send, (conditions.the_send, (queries, tt))))) in
    view_send inside_scan.the_row _ _ _ _ fields

-- a batch whose rows are not written yet
pub blank_send : IsSend blank.the_row
blank_send =
    let queries = Arc-send shared.the_row shared_send shared_sync in
    let number : IsSend u32 = search sendable in
    let long : IsSend u64 = search sendable in
    let fields = declared_send inside_blank.the_type (queries, (number, (number, (long, (frame.the_send, tt))))) in
    view_send inside_blank.the_row _ _ _ _ fields

-- and what a cut gives of it
pub blanked_send : IsSend blanked.the_row
blanked_send = variants_send blanked.enum ((blank_send, tt), ((frame.the_send, tt), ((frame.the_send, tt), tt)))
