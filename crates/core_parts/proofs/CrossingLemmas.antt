-- That batches in flight, seats and accepted queries may be sent to another thread, with those that are lent or were let go.
use denote.Param.Send.{IsSend, view_send, sendable}
use denote.Param.SendFields.{declared_send, variants_send}
use Rattle.std.proofs.Crossing.{Arc-send, Vec-send, crosses}
use Rattle.bit_words.proofs.bits.Bits.TheSendSync as bits
use Rattle.star_values.proofs.CrossingLemmas.{fading_send}
use Rattle.star_plan.specs.contracts.star_query.StarQuery as query
use Rattle.aggregations.proofs.groups.Groups.TheSendSync as groups
use Rattle.continuous_scan.proofs.CrossingLemmas.{option_send, query_send, query_sync}
use Rattle.core_parts.proofs.home.Home.TheSendSync as home
use Rattle.core_parts.proofs.version_numbers.VersionNumbers.TheSendSync as numbers
use Rattle.reply_text.proofs.reply.Reply.TheSendSync as reply
use Rattle.core_parts.specs.contracts.accepted_query.AcceptedQuery as asked
use Rattle.core_parts.specs.contracts.accepted_query.AcceptedQuery.TheInside as inside_asked
use Rattle.core_parts.specs.contracts.flight.Flight as flight
use Rattle.core_parts.specs.contracts.flight.Flight.TheInside as inside_flight
use Rattle.core_parts.specs.contracts.flight.Stand as stand
use Rattle.core_parts.specs.contracts.flights.Flights as flights
use Rattle.core_parts.specs.contracts.flights.Flights.TheInside as inside_flights
use Rattle.core_parts.specs.contracts.lent.Lent as lent
use Rattle.core_parts.specs.contracts.lent.Lent.TheInside as inside_lent
use Rattle.core_parts.specs.contracts.passing.Passing as passing
use Rattle.core_parts.specs.contracts.queries.Queries as queries
use Rattle.core_parts.specs.contracts.queries.Queries.TheInside as inside_queries
use Rattle.core_parts.specs.contracts.seat.Seat as seat
use Rattle.core_parts.specs.contracts.seat.Seat.TheInside as inside_seat
use Rattle.core_parts.specs.contracts.submitted.Standing as standing
use Rattle.core_parts.specs.contracts.submitted.Submitted as submitted
use Rattle.core_parts.specs.contracts.submitted.TakenReply as taken
use Rattle.core_parts.specs.contracts.submitted.TakenReply.TheInside as inside_taken

-- what stands for a batch that is lent
lent_send : IsSend lent.the_row
lent_send =
    let fields = declared_send inside_lent.the_type (
      search sendable,
      (
        search sendable,
        (
          search (sendable, bits.the_send) depth 10,
          (
            numbers.the_send,
            (search (sendable, crosses) depth 10, (search (sendable, crosses) depth 10, tt)),
          ),
        ),
      ),
    ) in
    view_send inside_lent.the_row _ _ _ _ fields

-- where a batch in flight is
stand_send : IsSend stand.the_row
stand_send = variants_send stand.enum ((home.the_send, tt), ((lent_send, tt), tt))

-- a batch in flight
flight_send : IsSend flight.the_row
flight_send =
    let fields = declared_send inside_flight.the_type (stand_send, (search (sendable, crosses) depth 10, tt)) in
    view_send inside_flight.the_row _ _ _ _ fields

-- one on its way through all filters
passing_send : IsSend passing.the_row
passing_send = declared_send passing.the_type (flight_send, (search (sendable, crosses) depth 20, tt))

-- and all of them
pub flights_send : IsSend flights.the_row
flights_send =
    let fields = declared_send inside_flights.the_type (Vec-send _ flight_send, (Vec-send _ passing_send, tt)) in
    view_send inside_flights.the_row _ _ _ _ fields

-- what is seen of a reply that was taken
taken_send : IsSend taken.the_row
taken_send =
    view_send inside_taken.the_row _ _ _ _ (declared_send inside_taken.the_type (search (sendable, crosses) depth 10, tt))

-- what became of a statement
standing_send : IsSend standing.the_row
standing_send = variants_send standing.enum ((reply.the_send, tt), (tt, ((taken_send, tt), (tt, (tt, tt)))))

-- a statement
submitted_send : IsSend submitted.the_row
submitted_send = declared_send submitted.the_type (search sendable, (standing_send, tt))

-- a seat may be sent
pub seat_send : IsSend seat.the_row
seat_send =
    view_send inside_seat.the_row _ _ _ _ (declared_send inside_seat.the_type (fading_send _ submitted_send, (search sendable, tt)))

-- an accepted query
asked_send : IsSend asked.the_row
asked_send =
    let query = Arc-send query.the_row query_send query_sync in
    let fields = declared_send inside_asked.the_type (
      search sendable,
      (
        search sendable,
        (
          search (sendable, crosses) depth 10,
          (option_send _ query, (search sendable, (option_send _ groups.the_send, tt))),
        ),
      ),
    ) in
    view_send inside_asked.the_row _ _ _ _ fields

-- and all of them
pub queries_send : IsSend queries.the_row
queries_send =
    view_send inside_queries.the_row _ _ _ _ (declared_send inside_queries.the_type (fading_send _ asked_send, (search sendable, tt)))
