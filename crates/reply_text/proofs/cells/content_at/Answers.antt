use Rattle.reply_text.proofs.CellLemmas.{content_ends}
use Rattle.reply_text.proofs.cells.content_at.Goals as goal

pub returns-then-not-quote : goal.returns-then-not-quote
returns-then-not-quote c =
    content_ends c.bytes.content.items c.args.bytes.now c.split_at.result.1.now c.bytes.byte-index c.bytes.passed c.bytes.quoted _
    c.bytes.invariant c.bytes-test.true c.if-quoted.true c.if-not-quote.true c.split_at.ensures.back
