-- The statements so far were read, and no others.
use Rattle.script_run.proofs.Words.{StaysFed}
use Rattle.script_run.specs.Front.{ReadsBetween}
use Rattle.script_run.proofs.SharedWholeLemmas.{statements_left}
use Rattle.script_run.proofs.seat_front.SeatFront.read_run.Given as goal

abbrev pub invariant-statements : goal.invariant-statements
invariant-statements l = record {
  reads : ReadsBetween l.fn.reader l.plain.items l.reader;
  stays : StaysFed l.fn.reader l.reader;
}

abbrev pub decreases-statements : goal.decreases-statements
decreases-statements l = statements_left l.reader
