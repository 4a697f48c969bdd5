use Rattle.reply_text.proofs.CellLemmas.{AreValues}
use Rattle.reply_text.proofs.ReplyLemmas.{back_none, back_some, none_at, some_at, within}
use Rattle.reply_text.proofs.reading.read_reply.Goals as goal

pub overflow_sub-result : goal.overflow_sub-result
overflow_sub-result c =
    let values : AreValues = record { back = c.integer_text_reads_back.ensures; rule = c.small_text_rule_is_tested.ensures } in
    within values c.args.bytes.now c.in-Some.reply c.in-Some.rest.now (rw (← c.in-Ok.ensures, c.in-Some.is))

pub returns-in-Some-clause-some : goal.returns-in-Some-clause-some
returns-in-Some-clause-some c =
    let values : AreValues = record { back = c.integer_text_reads_back.ensures; rule = c.small_text_rule_is_tested.ensures } in
    some_at values c.args.bytes.now c.in-Some.reply c.in-Some.rest.now (rw (← c.in-Ok.ensures, c.in-Some.is))

pub returns-in-None-clause-none : goal.returns-in-None-clause-none
returns-in-None-clause-none c =
    let values : AreValues = record { back = c.integer_text_reads_back.ensures; rule = c.small_text_rule_is_tested.ensures } in
    none_at values c.args.bytes.now (rw (← c.in-Ok.ensures, c.in-None.is))

pub returns-in-Some-clause-back : goal.returns-in-Some-clause-back
returns-in-Some-clause-back c =
    let values : AreValues = record { back = c.integer_text_reads_back.ensures; rule = c.small_text_rule_is_tested.ensures } in
    back_some values c.args.bytes.now c.in-Some.reply c.in-Some.rest.now (rw (← c.in-Ok.ensures, c.in-Some.is))

pub returns-in-None-clause-back : goal.returns-in-None-clause-back
returns-in-None-clause-back c =
    let values : AreValues = record { back = c.integer_text_reads_back.ensures; rule = c.small_text_rule_is_tested.ensures } in
    back_none values c.args.bytes.now (rw (← c.in-Ok.ensures, c.in-None.is))
