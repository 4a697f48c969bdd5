use Rattle.std.proofs.Common.{ap, take, ◌∙◌}
use Rattle.std.proofs.lemmas.Result.{err_from_is_err_and}
use Rattle.script_reader.proofs.OpenLemmas.{goes_further, goes_on, last_answers, last_err, last_short, line_wants, not_whole, parts_of, short_way, still_no_line, whole_answers}
use Rattle.script_reader.proofs.reader.take_next.Goals as goal

pub returns-in_default-clause-answers : goal.returns-in_default-clause-answers
returns-in_default-clause-answers c = λ fed.
    let same = c.line_len.ensures.same in
    let kept = c.keep_short.ensures in
    let way = short_way c.args.load.now c.lines.load c.args.pending.now c.lines.pending c.line_len.new.self c.keep_short.new.pending c.args.ended
    same c.lines.invariant.way kept.open kept.stands in
    let none = still_no_line c.args.ended c.lines.pending c.keep_short.new.pending c.in_default.ensures.none kept.none (λ e. kept.empty (same ∙ e)) in
    last_answers c.args.ended c.take_last.result c.args.load.now c.lines.load c.take_last.new.load c.args.pending.now c.keep_short.new.pending fed
    way none c.take_last.ensures.not_ended c.take_last.ensures.ended

pub returns-in_default-clause-wanted : goal.returns-in_default-clause-wanted
returns-in_default-clause-wanted c = λ fed.
    let same = c.line_len.ensures.same in
    let kept = c.keep_short.ensures in
    let way = short_way c.args.load.now c.lines.load c.args.pending.now c.lines.pending c.line_len.new.self c.keep_short.new.pending c.args.ended
    same c.lines.invariant.way kept.open kept.stands in
    last_err c.take_last.result c.args.load.now c.lines.load c.take_last.new.load c.args.pending.now c.keep_short.new.pending fed c.args.ended
    way c.take_last.ensures.err

pub returns-in_default-clause-short : goal.returns-in_default-clause-short
returns-in_default-clause-short c = λ fed.
    let same = c.line_len.ensures.same in
    let kept = c.keep_short.ensures in
    let way = short_way c.args.load.now c.lines.load c.args.pending.now c.lines.pending c.line_len.new.self c.keep_short.new.pending c.args.ended
    same c.lines.invariant.way kept.open kept.stands in
    last_short c.args.ended c.take_last.result c.lines.load c.take_last.new.load c.keep_short.new.pending fed
    (parts_of c.args.load.now c.lines.load c.args.pending.now c.keep_short.new.pending c.args.ended way) c.in_ok-keep_short.ensures.short
    c.take_last.ensures.not_ended c.take_last.ensures.ended

pub returns-in_err-taken-clause-wanted : goal.returns-in_err-taken-clause-wanted
returns-in_err-taken-clause-wanted c = λ fed.
    let failed = err_from_is_err_and c.from_residual-in_err-taken.result c.from_residual-in_err-taken.ensures.1 in
    let line = c.split_at.ensures.front ∙ ap (take c.in-Some.len) (c.as_slice.ensures ∙ c.line_len.ensures.same) in
    let some = rw line at c.in_err-taken.ensures.err.1 in
    rw (failed.1, c.in_err-taken.ensures.err.0, c.line_len.ensures.same)
    (line_wants c.args.load.now c.lines.load c.args.pending.now c.lines.pending c.in-Some.len fed c.args.ended c.lines.invariant.way c.in-Some.ensures.some some)

pub returns-in-Whole-clause-answers : goal.returns-in-Whole-clause-answers
returns-in-Whole-clause-answers c = λ fed more last comes.
    let line = c.split_at.ensures.front ∙ ap (take c.in-Some.len) (c.as_slice.ensures ∙ c.line_len.ensures.same) in
    let taken = rw (c.in-Whole.is, line) at c.in_ok-taken.ensures.taken in
    rw (c.take_front.ensures, c.line_len.ensures.same)
    (whole_answers c.args.load.now c.lines.load c.take_line.new.load c.args.pending.now c.lines.pending c.in-Some.len fed c.args.ended c.in-Whole.statement
    c.lines.invariant.way c.in-Some.ensures.some taken more last comes)

pub lines-preserved : goal.lines-preserved
lines-preserved c =
    let line = c.split_at.ensures.front ∙ ap (take c.in-Some.len) (c.as_slice.ensures ∙ c.line_len.ensures.same) in
    let taken = rw line at c.in_ok-taken.ensures.taken in
    let on = goes_on c.in_ok-taken.taken c.lines.load c.take_line.new.load c.lines.pending c.in-Some.len c.args.ended
    (not_whole c.in_ok-taken.taken c.in_default-taken.not-Whole) c.lines.invariant.way.left c.lines.invariant.way.opened c.in-Some.ensures.some taken in
    record { way = rw (c.take_front.ensures, c.line_len.ensures.same) (goes_further _ _ _ _ _ _ c.args.ended c.lines.invariant.way on) }
