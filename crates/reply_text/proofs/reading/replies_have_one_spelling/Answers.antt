use Rattle.reply_text.proofs.CellLemmas.{AreValues}
use Rattle.reply_text.proofs.ReplyLemmas.{one_spelling}
use Rattle.reply_text.proofs.reading.replies_have_one_spelling.Goals as goal

pub returns : goal.returns
returns c =
    let values : AreValues = record { back = c.integer_text_reads_back.ensures; rule = c.small_text_rule_is_tested.ensures } in
    one_spelling values
