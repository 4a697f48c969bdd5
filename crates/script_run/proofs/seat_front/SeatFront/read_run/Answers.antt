-- One statement behind another.
use Rattle.script_run.proofs.Words.{refl, Some}
use Rattle.script_run.proofs.SeatManyLemmas.{run-fewer, run-goes, run-next, run-starts}
use Rattle.script_run.proofs.WholeLemmas.{fed_on}
use Rattle.script_run.proofs.seat_front.SeatFront.read_run.Goals as goal

pub statements-init : goal.statements-init
statements-init c = record {
  reads = run-starts c.args.reader.now c.new-plain.result.items c.new-plain.ensures.items;
  stays = (refl, refl);
}

pub statements-preserved : goal.statements-preserved
statements-preserved c = record {
  reads = run-goes c.args.reader.now c.statements.reader c.read_next.new.reader c.statements.plain.items c.read_next.new.plain.items
      c.statements.invariant.reads c.statements.invariant.stays c.in_default.ensures.reads;
  stays = fed_on c.args.reader.now c.statements.reader c.read_next.new.reader c.statements.invariant.stays c.read_next.ensures.stays;
}

pub statements-smaller : goal.statements-smaller
statements-smaller c =
    run-fewer c.statements.reader c.read_next.new.reader c.statements.plain.items c.read_next.new.plain.items c.in_default.ensures.reads
    c.read_next.ensures.stays

pub returns-in-Some-clause-reads : goal.returns-in-Some-clause-reads
returns-in-Some-clause-reads c =
    let run = run-next (Some c.in-Some.end) c.args.reader.now c.statements.reader c.read_next.new.reader c.statements.plain.items
    c.read_next.new.plain.items c.statements.invariant.reads c.statements.invariant.stays c.in-Some.ensures.reads in
    record { reads = run.0; stops = run.1 }
