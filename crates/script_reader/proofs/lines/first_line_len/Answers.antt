use Rattle.std.proofs.Common.{◌≡◌, true, not, ◌==◌, length, refl, arith}
use Rattle.std.proofs.lemmas.List.{nil_from_length}
use Rattle.std.proofs.lemmas.List.Sums.{prefix_len-le-length}
use Rattle.script_reader.proofs.LineLemmas.{whole_lines-append, whole_lines-feed, whole_lines-last, whole_lines-no_feed}
use Rattle.script_reader.proofs.lines.first_line_len.Goals as goal
use Rattle.script_reader.proofs.lines.first_line_len.Goals.{else-ended-via-then-ended+else-feed-gt0, else-ended-via-else-ended}

pub returns-then-feed-script-clause-some : goal.returns-then-feed-script-clause-some
returns-then-feed-script-clause-some c =
    whole_lines-feed c.args.ended c.args.script.now _ c.bytes_to_line_feed-feed.ensures c.if-feed-script.true

pub returns-then-feed-script-clause-stays : goal.returns-then-feed-script-clause-stays
returns-then-feed-script-clause-stays c =
    λ _. whole_lines-append c.args.script.now _ c.bytes_to_line_feed-feed.ensures c.if-feed-script.true

pub returns-then-feed-gt0-clause-some : goal.returns-then-feed-gt0-clause-some
returns-then-feed-gt0-clause-some c =
    let ended : c.args.ended ≡ true = c.if-ended.true in
    rw ended (whole_lines-last c.args.script.now _ c.bytes_to_line_feed-feed.ensures c.if-feed-script.false c.if-feed-gt0.true)

pub returns-then-feed-gt0-clause-within : goal.returns-then-feed-gt0-clause-within
returns-then-feed-gt0-clause-within c =
    let fits = prefix_len-le-length (λ byte. not (byte == 10)) c.args.script.now in (omega arith, omega arith)

pub returns-else-ended-clause-none : goal.returns-else-ended-clause-none
returns-else-ended-clause-none c =
    elim c.else-ended.branch [
      | else-ended-via-then-ended+else-feed-gt0 w ↦
          (let none : length c.args.script.now ≡ 0 = omega arith in rw (nil_from_length c.args.script.now none) refl)
      | else-ended-via-else-ended w ↦
          rw w.if-ended.false (whole_lines-no_feed c.args.script.now _ c.bytes_to_line_feed-feed.ensures c.if-feed-script.false)
    ]
