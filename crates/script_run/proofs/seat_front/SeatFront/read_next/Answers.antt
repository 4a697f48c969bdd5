-- No memory was left for the next statement.
use Rattle.script_run.proofs.SeatManyLemmas.{reads-wanting}
use Rattle.script_run.proofs.seat_front.SeatFront.read_next.Goals as goal

pub returns-in_default-clause-reads : goal.returns-in_default-clause-reads
returns-in_default-clause-reads c =
    reads-wanting c.args.reader.now c.next_statement.new.self c.args.plain.now.items c.in_default.ensures.wanted
    c.next_statement.ensures.stays
