-- Lines that begin no statement are passed over, and the next is the statement's own.
use Rattle.std.proofs.Common.{rules, sym, arith}
use Rattle.std.proofs.lemmas.List.{take_rest}
use Rattle.script_reader.proofs.ReachLemmas.{Passes-none, Passes-more, Opens-next, passed_more, stays_passed}
use Rattle.script_reader.proofs.opening.first_opening.Goals as goal

pub lines-init : goal.lines-init
lines-init c = record { within = search rules; passed = search rules; stays = search rules; passes = Passes-none _ _ }

pub lines-preserved : goal.lines-preserved
lines-preserved c =
    let within = c.in-Some.ensures.within in
    let ended = c.args.ended in
    let script = c.args.script.now in
    let rest = take_rest script c.lines.end in
    let first = rw rest at c.in-Some.ensures.some in
    let none = rw (c.line_text-text.ensures, rest) at (sym c.if-not-is_no_statement.ensures) in
    record {
      within = omega arith;
      passed = passed_more ended script c.lines.end c.in-Some.len first none c.lines.invariant.passed;
      stays = stays_passed ended script c.lines.end c.in-Some.len (rw rest at c.in-Some.ensures.stays) none c.lines.invariant.stays;
      passes = Passes-more ended script c.lines.end c.in-Some.len first none c.lines.invariant.passes;
    }

pub returns-then-not-is_no_statement-clause-lines : goal.returns-then-not-is_no_statement-clause-lines
returns-then-not-is_no_statement-clause-lines c =
    let script = c.args.script.now in
    let rest = take_rest script c.lines.end in
    Opens-next c.args.ended script c.line_text-text.result.now c.lines.end c.in-Some.len
    (rw rest at c.in-Some.ensures.some) (rw rest at c.line_text-text.ensures) c.lines.invariant.passes
