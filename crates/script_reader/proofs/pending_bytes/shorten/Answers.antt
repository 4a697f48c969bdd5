use Rattle.std.proofs.Common.{ap, arith, drop, length, ◌∙◌, ◌≤◌}
use Rattle.script_reader.specs.declared.clipping.TheConstants.{LINE_LIMIT}
use Rattle.script_reader.specs.declared.pending_bytes.TheConstants.{SHORTENED_BYTES}
use Rattle.script_reader.specs.Short.{short_line}
use Rattle.script_reader.proofs.ComingLemmas.{shortened_is}
use Rattle.script_reader.proofs.pending_bytes.shorten.Goals as goal

pub returns-clause-shortened : goal.returns-clause-shortened
returns-clause-shortened c =
    let line = c.split_at.ensures.back ∙ ap (λ bytes. drop c.args.start.now bytes) c.as_slice.ensures.value in
    let long : SHORTENED_BYTES ≤ length c.split_at.result.1.now = omega arith in
    shortened_is _ c.in_ok-kept.kept.items (rw line at long) c.requires.none (c.in_ok-kept.ensures ∙ ap (short_line LINE_LIMIT) line)

pub returns-clause-none : goal.returns-clause-none
returns-clause-none c = (returns-clause-shortened c).none
