use Rattle.std.proofs.Common.{sym, ap, ◌∙◌, ◌+◌, arith}
use Rattle.script_reader.proofs.LineLemmas.{feed}
use Rattle.script_reader.proofs.SoughtLemmas.{feed-sought, feed-within}
use Rattle.script_reader.proofs.lines.bytes_to_line_feed_from.Goals as goal

pub overflow_add-result : goal.overflow_add-result
overflow_add-result c =
    let bytes = c.args.bytes.now in
    let found = c.bytes_to_line_feed.ensures ∙ ap feed c.split_at.ensures.back in
    let sought = feed-sought c.args.sought bytes c.requires.within c.requires.none in
    let within = feed-within bytes in omega arith

pub returns : goal.returns
returns c =
    let bytes = c.args.bytes.now in
    let found = c.bytes_to_line_feed.ensures ∙ ap feed c.split_at.ensures.back in
    ap (λ n. c.args.sought + n) found ∙ sym (feed-sought c.args.sought bytes c.requires.within c.requires.none)
