use Rattle.std.proofs.Common.{sym, arith, rules}
use Rattle.std.proofs.lemmas.List.{take_rest}
use Rattle.script_reader.proofs.BlockLemmas.{block_more, stays_more}
use Rattle.script_reader.proofs.ReachLemmas.{HasLines-none, HasLines-more, Closes-dot}
use Rattle.script_reader.proofs.closing.first_closing.Goals as goal

pub lines-init : goal.lines-init
lines-init c = record { within = search rules; block = search rules; stays = search rules; lines = HasLines-none _ _ }

pub lines-preserved : goal.lines-preserved
lines-preserved c =
    let within = c.in-Some.ensures.within in
    let script = c.args.script.now in
    let len = c.lines.len in
    let n = c.in-Some.line_len in
    let rest = take_rest script len in
    let inside = rw rest at (sym c.if-is_dot_line.ensures) in
    record {
      within = omega arith;
      block = block_more c.args.ended script len n (rw rest at c.in-Some.ensures.some) inside c.lines.invariant.block;
      stays = stays_more c.args.ended script len n (rw rest at c.in-Some.ensures.stays) inside c.lines.invariant.stays;
      lines = HasLines-more c.args.ended script len n (rw rest at c.in-Some.ensures.some) c.lines.invariant.lines;
    }

pub returns-then-is_dot_line-clause-lines : goal.returns-then-is_dot_line-clause-lines
returns-then-is_dot_line-clause-lines c =
    let script = c.args.script.now in
    let rest = take_rest script c.lines.len in
    let dot = rw rest at (sym c.if-is_dot_line.ensures) in
    Closes-dot c.args.ended script c.lines.len c.in-Some.line_len (rw rest at c.in-Some.ensures.some) dot c.lines.invariant.lines
