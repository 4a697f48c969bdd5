use Rattle.std.proofs.Common.{arith}
use Rattle.script_reader.proofs.SoughtLemmas.{feed-within, first_line, last_line, no_line}
use Rattle.script_reader.proofs.lines.line_len_from.Goals as goal
use Rattle.script_reader.proofs.lines.line_len_from.Goals.{else-ended-via-then-ended+else-feed-gt0, else-ended-via-else-ended}

pub returns-then-feed-bytes-clause-some : goal.returns-then-feed-bytes-clause-some
returns-then-feed-bytes-clause-some c =
    first_line c.args.ended c.args.bytes.now c.bytes_to_line_feed_from-feed.result c.bytes_to_line_feed_from-feed.ensures (omega arith)

pub returns-then-feed-gt0-clause-some : goal.returns-then-feed-gt0-clause-some
returns-then-feed-gt0-clause-some c =
    last_line c.args.ended c.args.bytes.now c.bytes_to_line_feed_from-feed.result c.if-ended.true c.bytes_to_line_feed_from-feed.ensures (omega arith) (omega arith)

pub returns-then-feed-gt0-clause-within : goal.returns-then-feed-gt0-clause-within
returns-then-feed-gt0-clause-within c =
    let found = c.bytes_to_line_feed_from-feed.ensures in
    let within = feed-within c.args.bytes.now in (omega arith, omega arith)

pub returns-else-ended-clause-none : goal.returns-else-ended-clause-none
returns-else-ended-clause-none c =
    no_line c.args.ended c.args.bytes.now c.bytes_to_line_feed_from-feed.result c.bytes_to_line_feed_from-feed.ensures (omega arith)
    (λ e. elim c.else-ended.branch [
      | else-ended-via-then-ended+else-feed-gt0 w ↦ let none = w.if-feed-gt0 in omega arith
      | else-ended-via-else-ended w ↦ let wrong = w.if-ended in cc
    ])
